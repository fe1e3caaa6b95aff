-- A Commit's token, read again.
use Rattle.std.proofs.Common.{◌≡◌, ℕ, ◌≤◌, List, length, Some, refl, sym, ap, ◌∙◌}
use Rattle.std.proofs.lemmas.List.{length-map}
use Rattle.std.proofs.lemmas.Option.{same_Some}
use Rattle.aeg_base.specs.Store.{Store, written_all}
use Rattle.aeg_base.specs.Changes.{changes}
use Rattle.aeg_base.proofs.ChangeLaws.{written-changes}
use Rattle.svc_api.specs.declared.outcome.Outcome.{Outcome}
use Rattle.kv_store.specs.Stores.{Holding}
use Rattle.exec_model.specs.declared.job.Seg.{Seg}
use Rattle.exec_core.specs.declared.ran.Ran.{Ran}
use Rattle.exec_core.specs.Jobs.{IsRan}
use Rattle.exec_model.specs.Jobs.{Beginnings, Run, run_job, below, serial_store}
use Rattle.log_values.specs.declared.mid_value.Verdict.{Verdict}
use Rattle.log_values.specs.declared.mid_value.Verdict.TheVariants.{Commit, Serial}
use Rattle.log_values.specs.Outcomes.{outcome, outcome_at, FitsOutcome}
use Rattle.log_values.proofs.OutcomeGrammar.{outcome_grammar}
use Rattle.log_values.proofs.Wholes.{from_grammar, spelled_is_whole}
use Rattle.rollback.specs.Settled.{told, Reads, HasToken, Settled, IsTokenOf, serial_outcome}
use Rattle.rollback.specs.Specs.{IsLeftBy}
use Rattle.rollback.proofs.Fits.{length_below}

-- the token of an outcome tells it
pub told_spelled : (o : Outcome) → FitsOutcome o → told (outcome o) ≡ Some o
told_spelled o f = spelled_is_whole FitsOutcome outcome outcome_at
    (from_grammar FitsOutcome outcome outcome_at outcome_grammar) (outcome o) o (record { fit = f; parts = refl })

-- a run with the verdict's token is what the verdict makes of its start
pub kept : (begins : Beginnings) (segs : List Seg) (verdict : Verdict) (own : List ℕ) (s t : Store) (o : Outcome)
    → HasToken verdict own → told own ≡ Some o → o.pairs ≡ changes s t → Settled begins segs verdict s t o
kept begins segs (Commit token order) own s t o same tells pairs = (ap told same ∙ tells, sym (ap (written_all s) pairs ∙ written-changes s t))
kept begins segs Serial own s t o same tells pairs = absurd same

pub outcome_is : (begins : Beginnings) (segs : List Seg) (token order places : List ℕ) (s t : Store) (o : Outcome)
    → IsTokenOf begins segs s order token → Settled begins segs (Commit token places) s t o → o ≡ serial_outcome begins segs s order
outcome_is begins segs token order places s t o own made =
    same_Some o (serial_outcome begins segs s order) (sym made.0 ∙ ap told own.spelled ∙ told_spelled (serial_outcome begins segs s order) own.fits)

pub store_is : (begins : Beginnings) (segs : List Seg) (token order places : List ℕ) (s t : Store) (o : Outcome)
    → IsTokenOf begins segs s order token → Settled begins segs (Commit token places) s t o → t ≡ serial_store begins segs s order
store_is begins segs token order places s t o own made =
    made.1 ∙ ap (λ (x : Outcome). written_all s x.pairs) (outcome_is begins segs token order places s t o own made)
    ∙ written-changes s (serial_store begins segs s order)

-- a store that a run left
pub left_by : (run : Run) (ran : Ran) (s : Store) (store : Holding) → IsRan s store.map run ran → ran.undo.top ≤ store.room → IsLeftBy ran store
left_by run ran s store made room = record {
  pairs = ap (λ (o : Outcome). o.pairs) made.outcome_is ∙ ap (λ u. changes u store.map) (sym made.start);
  left = made.left;
  room = room;
}

ends_of_run : (begins : Beginnings) (segs : List Seg) (s : Store) (schedule : List ℕ) → length (run_job begins segs s schedule).ends ≡ length segs
unfolding run_job
ends_of_run begins segs s schedule = length-map (below (length segs)) _ ∙ length_below (length segs)

-- the token of a run reads as an outcome with one end per segment
pub reads_of : (begins : Beginnings) (segs : List Seg) (s t : Store) (schedule : List ℕ) (ran : Ran) (token : List ℕ)
    → IsRan s t (run_job begins segs s schedule) ran → token ≡ outcome ran.outcome → FitsOutcome ran.outcome
    → Reads token (length segs)
reads_of begins segs s t schedule ran token made spelled fits = record {
  told_as = ran.outcome;
  reads = ap told spelled ∙ told_spelled ran.outcome fits;
  each = ap (λ (o : Outcome). length o.ends) made.outcome_is ∙ ends_of_run begins segs s schedule;
}
