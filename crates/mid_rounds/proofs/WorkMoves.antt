-- What a middle node's work decides.
use Rattle.std.proofs.Common.{◌≡◌, ℕ, List, [], refl, sym, ap, ◌∙◌, subst, cond, Bool, false, Option, Some, None, Result, Ok, Err, append-nil}
use Rattle.std.specs.Prelude.{IfOk, option_copied, is_some as some}
use Rattle.std.specs.Borrow.{Bor}
use Rattle.std.proofs.lemmas.Option.{same_Some}
use Rattle.aeg_base.specs.declared.memory.Memory.{Memory}
use Rattle.aeg_base.specs.declared.names.End.{End}
use Rattle.exec_core.specs.Jobs.{UsesGiven}
use Rattle.exec_model.specs.declared.job.Job.{Job}
use Rattle.exec_model.proofs.Outcome.{run_job-steps}
use Rattle.log_values.specs.declared.any_value.AnyValue.{AnyValue}
use Rattle.log_values.specs.declared.mid_value.Verdict.{Verdict}
use Rattle.round_model.specs.After.{verdict_at}
use Rattle.round_model.specs.Lists.{is_some}
use Rattle.round_model.specs.Service.{Programs}
use Rattle.tier_model.specs.declared.turn.Idle.{Idle}
use Rattle.tier_model.specs.declared.turn.Turn.TheVariants as answers
use Rattle.tier_model.specs.Moves.{Move}
use Rattle.tier_model.specs.Mid.{Mid, applies, ready}
use Rattle.tier_model.specs.MidRows.{Running, runs, runs_or_not, running, to_run, work}
use Rattle.node_log.specs.declared.decided.Decided.{Decided}
use Rattle.node_log.specs.declared.member.Member.{Member}
use Rattle.node_log.specs.declared.working.Working.{Working}
use Rattle.node_log.specs.Deciding.{idle_in}
use Rattle.mid_rounds.specs.declared.keeping.Keeping.{Keeping}
use Rattle.mid_rounds.specs.Deciding.{DecidesMove, IsInRange, mid_in}
use Rattle.mid_rounds.specs.Running.{IsNextRun, runs_by, steps_of}
use Rattle.mid_rounds.proofs.DecidedMoves.{had_none, without_facts}
use Rattle.mid_rounds.proofs.RunMoves.{to_run_is}

some_is : {A : Type 0} (o : Option A) → some o ≡ is_some o
some_is None = refl
some_is (Some a) = refl

copied_is : {A : Type 0} (o : Option (Bor A)) → some o ≡ is_some (option_copied o)
copied_is None = refl
copied_is (Some a) = refl

-- whether the verdict is learned, by the answer of the log
pub learned_is : (L : List AnyValue) (o : Option (Bor Verdict)) (b : Bool) (r a : ℕ) → b ≡ some o → option_copied o ≡ verdict_at L r → r ≡ a
    → is_some (verdict_at L a) ≡ b
learned_is L o b r a e f g = ap (λ (z : ℕ). is_some (verdict_at L z)) (sym g) ∙ sym (ap is_some f) ∙ sym (copied_is o) ∙ sym e

module _ (p : Programs) (m : Member) (old : Working Keeping) where
  abbrev u : ℕ
  u = m.faults

  abbrev x : ℕ
  x = m.me.index

  abbrev σ : Mid
  σ = mid_in m old

  abbrev learned : Bool
  learned = is_some (verdict_at σ.log.learned σ.applied)

  abbrev run_or_not : List ℕ → Move Mid
  run_or_not schedule = runs_or_not u p x σ (to_run u p x σ schedule)

  pub work_is : (schedule : List ℕ) → learned ≡ false → work u p x σ schedule ≡ run_or_not schedule
  work_is schedule e = ap (λ (b : Bool). cond b (applies u p x σ (ready p σ)) (run_or_not schedule)) e

  -- nothing is run
  pub idles_on : (schedule : List ℕ) (cause : Idle) (before : List (End × List ℕ)) (d : Decided) → learned ≡ false
      → Some cause ≡ idle_in (run_or_not schedule).answer → d.facts.items ≡ [] → d.answer ≡ answers.Idle cause → IsInRange p m old
      → DecidesMove p m (work u p x σ schedule) old old before before (Ok d)
  idles_on schedule cause before d e why none idle k =
      subst (λ (z : Move Mid). DecidesMove p m z old old before before (Ok d)) (sym (work_is schedule e)) (go (to_run u p x σ schedule) why)
    where
      go : (o : Option Running) → Some cause ≡ idle_in (runs_or_not u p x σ o).answer → DecidesMove p m (runs_or_not u p x σ o) old old before before (Ok d)
      go None f = without_facts p m (runs_or_not u p x σ None) old old before before d none refl (idle ∙ ap answers.Idle (same_Some cause _ f)) refl
          (sym (append-nil before)) refl k
      go (Some r) f = absurd cc

  -- a run by its own steps is the run by the schedule that was given
  pub by_given : (job : Job) (new : Working Keeping) (before after : List (End × List ℕ)) (decided : Result Decided Memory) (schedule : List ℕ)
      (given : Option (List ℕ)) → learned ≡ false → IsNextRun p m old job → given ≡ Some schedule
      → DecidesMove p m (runs_by p m σ job (steps_of decided)) old new before after decided
      → IfOk decided (λ d. UsesGiven p.begins job.segs σ.tables.store given (steps_of decided))
      → DecidesMove p m (work u p x σ schedule) old new before after decided
  by_given job new before after (Err e) schedule given l n g k f = had_none p m (work u p x σ schedule) old new before after (Err e) refl k.kept
  by_given job new before after (Ok d) schedule given l n g k f =
      let used : UsesGiven p.begins job.segs σ.tables.store (Some schedule) (steps_of (Ok d)) =
      subst (λ (z : Option (List ℕ)). UsesGiven p.begins job.segs σ.tables.store z (steps_of (Ok d))) g f in
      let same : runs_by p m σ job (steps_of (Ok d)) ≡ runs_by p m σ job schedule =
      ap (λ (z : List ℕ). runs_by p m σ job z) used
      ∙ ap (λ r. runs u x σ (running p x σ r)) (run_job-steps p.begins job.segs σ.tables.store schedule) in
      let row : work u p x σ schedule ≡ runs_by p m σ job schedule = work_is schedule l
      ∙ ap (λ (o : Option Running). runs_or_not u p x σ o) (to_run_is p m old job schedule n) in
      subst (λ (z : Move Mid). DecidesMove p m z old new before after (Ok d)) (same ∙ sym row) k
