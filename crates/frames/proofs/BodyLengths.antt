-- Bodies are within the limit.
use Rattle.std.proofs.Common.{◌≡◌, ℕ, ◌+◌, ◌*◌, ◌≤◌, List, [], ◌∷◌, length, Some, None, refl, ap, arith}
use Rattle.std.specs.List.{flat_map, AllByRecursion}
use Rattle.std.proofs.lemmas.List.{length-append}
use Rattle.std.proofs.lemmas.List.Concat.{flat_map-cons}
use Rattle.aeg_base.specs.declared.names.Key.{Key}
use Rattle.aeg_base.specs.declared.names.Tier.{Tier}
use Rattle.svc_api.specs.declared.action.Ending.{Ending}
use Rattle.svc_api.specs.declared.action.Ending.TheVariants as ends
use Rattle.svc_api.specs.declared.outcome.Outcome.{Outcome}
use Rattle.svc_api.specs.Plan.{IsEnding}
use Rattle.log_model.specs.declared.message.PaxMsg.{PaxMsg}
use Rattle.log_model.specs.declared.message.PaxMsg.TheVariants.{Prepare, Promise, Accept, Accepted, Ask, Learn, Behind}
use Rattle.log_values.specs.declared.entry.Entry.{Entry}
use Rattle.log_values.specs.declared.any_value.AnyValue.{AnyValue}
use Rattle.log_values.specs.declared.any_value.AnyValue.TheVariants as values
use Rattle.log_values.specs.declared.mid_value.MidValue.TheVariants as mids
use Rattle.log_values.specs.declared.mid_value.Verdict.TheVariants as verdicts
use Rattle.log_values.specs.declared.back_value.BackValue.TheVariants as backs
use Rattle.log_values.specs.Outcomes.{pair, ending, outcome, FitsOutcome, commit, order_text, IsCommit}
use Rattle.log_values.specs.Values.{entry, FitsEntry, any_value, FitsAny}
use Rattle.frames.specs.declared.message.Msg.{Msg}
use Rattle.frames.specs.declared.message.Msg.TheVariants as msgs
use Rattle.frames.specs.LogMessages.{log_body, FitsLog}
use Rattle.frames.specs.Messages.{body, FitsMsg}

pairs_length : (ps : List (Key × ℕ)) → length (flat_map pair ps) ≡ 13 * length ps
pairs_length [] = refl
pairs_length (p ∷ ps) = omega (arith, ap length (flat_map-cons pair p ps), length-append (pair p) (flat_map pair ps), pairs_length ps)

ending_length : (e : Ending) → IsEnding e → length (ending e) ≤ 52
ending_length (ends.Reply reply) fits = omega (arith, fits)
ending_length (ends.Call tier stage call) fits = omega (arith, fits.1.1.1)

ends_length : (es : List Ending) → AllByRecursion IsEnding es → length (flat_map ending es) ≤ 52 * length es
ends_length [] all = omega arith
ends_length (e ∷ es) all = omega (
  arith,
  ap length (flat_map-cons ending e es),
  length-append (ending e) (flat_map ending es),
  ending_length e all.0,
  ends_length es all.1,
)

outcome_length : (o : Outcome) → FitsOutcome o → length (outcome o) ≤ 4995
outcome_length o fits =
    let pairs = pairs_length o.pairs in
    let ends = ends_length o.ends fits.ends in
    let count = fits.count in
    let end_count = fits.end_count in
    let whole : length (outcome o)
    ≡ 2 + (length (flat_map pair o.pairs) + (1 + length (flat_map ending o.ends))) = omega (
      arith,
      length-append (flat_map pair o.pairs) (length o.ends ∷ flat_map ending o.ends),
    ) in
    omega (arith, pairs, ends, count, end_count, whole)

commit_length : (token order : List ℕ) → IsCommit token order → length (commit (token, order)) ≤ 5028
commit_length token order is =
    let told = outcome_length is.told is.fits in
    let size : length token ≡ length (outcome is.told) = ap length is.spelled in
    omega (arith, told, size, is.count, is.fits.end_count, length-append token (order_text order))

entry_length : (e : Entry) → FitsEntry e → length (entry e) ≤ 54
entry_length e fits = omega (arith, fits.body)

entries_length : (es : List Entry) → AllByRecursion FitsEntry es → length (flat_map entry es) ≤ 54 * length es
entries_length [] all = omega arith
entries_length (e ∷ es) all = omega (
  arith,
  ap length (flat_map-cons entry e es),
  length-append (entry e) (flat_map entry es),
  entry_length e all.0,
  entries_length es all.1,
)

pub any_length : (v : AnyValue) → FitsAny v → length (any_value v) ≤ 5029
any_length (values.Mid (mids.Batch es)) fits = omega (arith, entries_length es fits.1, fits.0)
any_length (values.Mid (mids.Verdict (verdicts.Commit token order))) fits = omega (arith, commit_length token order fits)
any_length (values.Mid (mids.Verdict verdicts.Serial)) fits = omega arith
any_length (values.Back (backs.Call number call)) fits = omega (arith, fits.1)
any_length (values.Back (backs.Settle floor)) fits = omega arith

log_length : (tier : Tier) (m : PaxMsg AnyValue) → FitsLog tier m → length (log_body m) ≤ 5045
log_length tier (Prepare b pos) fits = omega arith
log_length tier (Promise b pos None) fits = omega arith
log_length tier (Promise b pos (Some r)) fits = omega (arith, any_length r.1 fits.1.1.1.1.0)
log_length tier (Accept b pos v) fits = omega (arith, any_length v fits.1.1.0)
log_length tier (Accepted b pos v) fits = omega (arith, any_length v fits.1.1.0)
log_length tier (Ask pos) fits = omega arith
log_length tier (Learn pos v) fits = omega (arith, any_length v fits.1.0)
log_length tier (Behind pos) fits = omega arith

pub body_length : (tier : Tier) (m : Msg) → FitsMsg tier m → length (body m) ≤ 8192
body_length tier (msgs.Log m) fits = omega (arith, log_length tier m fits)
body_length tier (msgs.Request seq request) fits = omega (arith, fits.1)
body_length tier (msgs.Reply who reply) fits = omega (arith, fits.1.1)
body_length tier (msgs.Token round token order) fits = omega (arith, commit_length token order fits.1)
body_length tier (msgs.Call number call) fits = omega (arith, fits.1)
body_length tier (msgs.Answer number code) fits = omega arith
body_length tier (msgs.Have about number code) fits = omega arith
body_length tier (msgs.Settle floor) fits = omega arith
