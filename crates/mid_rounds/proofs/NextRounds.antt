-- The next round of a middle node.
use Rattle.std.proofs.Common.{◌≡◌, ℕ, ◌<◌, ◌≤◌, List, refl, sym, ap, ◌∙◌, subst, arith, Option, Some, None}
use Rattle.std.specs.Prelude.{option_map}
use Rattle.std.specs.List.{AllByRecursion}
use Rattle.aeg_base.specs.declared.limits.TheConstants.{ROUNDS}
use Rattle.applied_rounds.specs.declared.told.Told.{Told}
use Rattle.applied_rounds.specs.States.{AppliedState, after_round_if}
use Rattle.batcher.specs.Clients.{ClientTable, Agrees}
use Rattle.log_model.specs.Log.{LogState, open_at}
use Rattle.log_values.specs.declared.any_value.AnyValue.{AnyValue}
use Rattle.log_values.specs.declared.entry.Entry.{Entry}
use Rattle.log_values.specs.declared.mid_value.MidValue.TheVariants as values
use Rattle.log_values.specs.declared.mid_value.Verdict.{Verdict}
use Rattle.log_values.specs.Values.{FitsEntry, FitsMid}
use Rattle.round_model.specs.After.{batch_at, verdict_at}
use Rattle.round_model.specs.Held.{held_code}
use Rattle.round_model.specs.Lists.{and_then}
use Rattle.round_model.specs.Numbered.{without}
use Rattle.round_model.specs.Service.{Programs, Finish}
use Rattle.round_model.specs.Settling.{finish_of}
use Rattle.round_model.specs.Tables.{Want, wants, drop_done, settled}
use Rattle.server_shim.proofs.Lists.{without_in}
use Rattle.state_verify.specs.Tallies.{TallyState}
use Rattle.tier_model.specs.Mid.{Mid, Ready, apply, apply_state, ready}
use Rattle.row_laws.specs.Mids.{IsMidIn}
use Rattle.row_laws.specs.Services.{IsServiceIn}
use Rattle.row_laws.proofs.MidRounds.{HasBatch, batch_of_log, HasVerdict, verdict_of_log, ready_in, apply_in}
use Rattle.mid_rounds.specs.declared.keeping.Keeping.{Keeping}
use Rattle.mid_rounds.specs.Mids.{claims_by, mid_with}
use Rattle.mid_rounds.specs.Deciding.{IsKeptWell}
use Rattle.mid_rounds.proofs.Services.{service_by}
use Rattle.mid_rounds.proofs.Votes.{claims_without}

-- WHAT THE LOG LEARNED OF IT

pub batch_fits : (p : Programs) (u x r : ℕ) (log : LogState AnyValue) (k : Keeping) (es : List Entry) → IsKeptWell p u x (mid_with x log k) k
    → r ≡ k.rounds.applied → Some es ≡ batch_at log.learned r → AllByRecursion FitsEntry es
batch_fits p u x r log k es well e f =
    let b : HasBatch (mid_with x log k) es = batch_of_log (mid_with x log k) es well.state.log (sym (f ∙ ap (λ (z : ℕ). batch_at log.learned z) e)) in b.fit

pub verdict_fits : (p : Programs) (u x r : ℕ) (log : LogState AnyValue) (k : Keeping) (v : Verdict) → IsKeptWell p u x (mid_with x log k) k
    → r ≡ k.rounds.applied → Some v ≡ verdict_at log.learned r → FitsMid (values.Verdict v) × (k.rounds.applied < ROUNDS)
verdict_fits p u x r log k v well e f =
    let b : HasVerdict (mid_with x log k) v = verdict_of_log (mid_with x log k) v well.state.log (sym (f ∙ ap (λ (z : ℕ). verdict_at log.learned z) e)) in
    let within : open_at log ≤ 4096 = well.state.log.within in
    (b.fit, omega (arith, b.room, within))

-- WHAT IT COMES TO

-- the round with these wants, where it comes to something
abbrev ready_by : List Want → Option Finish → Option Ready
ready_by ws o = option_map (λ f. record { wants = ws; finish = f }) o

ready_then : (ws : List Want) (o : Option Finish) → and_then o (λ f. Some (record { wants = ws; finish = f })) ≡ ready_by ws o
ready_then ws None = refl
ready_then ws (Some f) = refl

-- the next round, by what the log learned of it
pub ready_is : (p : Programs) (σ : Mid) (es : List Entry) (v : Verdict) → Some es ≡ batch_at σ.log.learned σ.applied
    → Some v ≡ verdict_at σ.log.learned σ.applied
    → ready p σ ≡ ready_by (wants p σ.tables es) (finish_of p (held_code σ.held) (wants p σ.tables es) σ.tables v)
ready_is p σ es v e f =
    ap (λ (o : Option (List Entry)). and_then o (λ es. and_then (verdict_at σ.log.learned σ.applied) (λ v.
    and_then (finish_of p (held_code σ.held) (wants p σ.tables es) σ.tables v) (λ o. Some (record { wants = wants p σ.tables es; finish = o }))))) (sym e)
    ∙ ap (λ (o : Option Verdict). and_then o (λ v.
    and_then (finish_of p (held_code σ.held) (wants p σ.tables es) σ.tables v) (λ o. Some (record { wants = wants p σ.tables es; finish = o })))) (sym f)
    ∙ ready_then (wants p σ.tables es) (finish_of p (held_code σ.held) (wants p σ.tables es) σ.tables v)

-- a round that tells nothing wasn't applied
pub unapplied : (s new : AppliedState) (ws : List Want) (o : Option Finish) (f : Finish → List Told) → new ≡ after_round_if s ws o
    → None ≡ option_map f o → new ≡ s
unapplied s new ws None f e g = e
unapplied s new ws (Some o) f e g = absurd cc

module _ (p : Programs) (x r : ℕ) (log : LogState AnyValue) (k new : Keeping) (clients : ClientTable) (es : List Entry) (v : Verdict) (told : List Told)
    (f : Finish → List Told) where
  abbrev was : Mid
  was = mid_with x log k

  abbrev ws : List Want
  ws = wants p k.rounds.tables es

  -- a round that told this was applied
  pub record WasApplied : Type 0 where
    pub round : r ≡ k.rounds.applied
    pub batch : Some es ≡ batch_at log.learned r
    pub verdict : Some v ≡ verdict_at log.learned r
    pub rounds : new.rounds ≡ after_round_if k.rounds ws (finish_of p (held_code k.held) ws k.rounds.tables v)
    pub told_is : Some told ≡ option_map f (finish_of p (held_code k.held) ws k.rounds.tables v)
    pub agrees : Agrees clients new.rounds.tables
    pub pending : new.pending ≡ drop_done clients.last k.pending
    pub tallies : new.tallies ≡ without k.tallies r
    pub held : new.held ≡ k.held

  came_to : (o : Option Finish) → new.rounds ≡ after_round_if k.rounds ws o → Some told ≡ option_map f o → WasApplied
      → mid_with x log new ≡ apply_state was (ready_by ws o)
  came_to None e g w = absurd cc
  came_to (Some o) e g w =
      let last : clients.last ≡ (settled k.rounds.tables ws o).last = sym w.agrees.last ∙ ap (λ (z : AppliedState). z.tables.last) e in
      let pending : new.pending ≡ drop_done (settled k.rounds.tables ws o).last k.pending = w.pending ∙ ap (λ (z : List ℕ). drop_done z k.pending) last in
      let tally : claims_by new.tallies ≡ without (claims_by k.tallies) k.rounds.applied = ap claims_by w.tallies ∙ claims_without k.tallies r
      ∙ ap (λ (z : ℕ). without (claims_by k.tallies) z) w.round in
      ap (λ (z : AppliedState). mid_with x log (record { rounds = z; pending = new.pending; tallies = new.tallies; held = new.held })) e
      ∙ ap (λ z. record (apply was (record { wants = ws; finish = o })) { pending = z; tally = claims_by new.tallies; held = new.held }) pending
      ∙ ap (λ z. record (apply was (record { wants = ws; finish = o })) { tally = z; held = new.held }) tally
      ∙ ap (λ z. record (apply was (record { wants = ws; finish = o })) { held = z }) w.held

  pub applied_is : WasApplied → mid_with x log new ≡ apply_state was (ready p was)
  applied_is w =
      let batch : Some es ≡ batch_at log.learned k.rounds.applied = w.batch ∙ ap (λ (z : ℕ). batch_at log.learned z) w.round in
      let verdict : Some v ≡ verdict_at log.learned k.rounds.applied = w.verdict ∙ ap (λ (z : ℕ). verdict_at log.learned z) w.round in
      came_to (finish_of p (held_code k.held) ws k.rounds.tables v) w.rounds w.told_is w ∙ ap (λ z. apply_state was z) (sym (ready_is p was es v batch verdict))

-- IN RANGE

-- the round that can be applied leaves the node in range
pub applies_in : (p : Programs) (u depth x : ℕ) (σ : Mid) → IsServiceIn p → IsMidIn p u depth x σ → IsMidIn p u depth x (apply_state σ (ready p σ))
applies_in p u depth x σ service k = go (ready p σ) refl
  where
    go : (o : Option Ready) → ready p σ ≡ o → IsMidIn p u depth x (apply_state σ o)
    go None e = k
    go (Some R) e = apply_in (service_by p) u depth x σ R k (ready_in (service_by p) u depth x σ R service k e)

pub kept_after : (p : Programs) (u x r : ℕ) (log : LogState AnyValue) (k new : Keeping) → IsServiceIn p → IsKeptWell p u x (mid_with x log k) k
    → mid_with x log new ≡ apply_state (mid_with x log k) (ready p (mid_with x log k)) → new.tallies ≡ without k.tallies r
    → IsKeptWell p u x (mid_with x log new) new
kept_after p u x r log k new service well e t = record {
  depth = well.depth;
  state = subst (IsMidIn p u well.depth x) (sym e) (applies_in p u well.depth x (mid_with x log k) service well.state);
  tallies = subst (AllByRecursion (λ (e : ℕ × TallyState). e.1.faults ≡ u)) (sym t)
      (without_in (λ (e : ℕ × TallyState). e.1.faults ≡ u) k.tallies r well.tallies);
}

-- rounds that are as they were leave it as it was
pub kept_same : (p : Programs) (u x : ℕ) (log : LogState AnyValue) (k : Keeping) (rounds : AppliedState) → IsKeptWell p u x (mid_with x log k) k
    → rounds ≡ k.rounds → IsKeptWell p u x (mid_with x log (record k { rounds = rounds })) (record k { rounds = rounds })
kept_same p u x log k rounds well e =
    subst (λ (z : AppliedState). IsKeptWell p u x (mid_with x log (record k { rounds = z })) (record k { rounds = z })) (sym e) well
