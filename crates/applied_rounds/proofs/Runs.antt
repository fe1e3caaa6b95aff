-- What a run of a job leaves.
use Rattle.std.proofs.Common.{◌≡◌, ℕ, ◌≤◌, List, length, ap, ◌∙◌, sym, subst, arith}
use Rattle.std.specs.List.{All}
use Rattle.std.proofs.lemmas.List.{length-map}
use Rattle.aeg_base.specs.Store.{Store}
use Rattle.svc_api.specs.declared.outcome.Outcome.{Outcome}
use Rattle.kv_store.specs.Stores.{Holding}
use Rattle.exec_model.specs.declared.job.Seg.{Seg}
use Rattle.exec_model.specs.declared.job.Job.{Job}
use Rattle.exec_model.specs.Jobs.{Beginnings, AreProper, run_job, below}
use Rattle.exec_core.specs.declared.ran.Ran.{Ran}
use Rattle.exec_core.specs.Jobs.{BeginsWell, IsRan}
use Rattle.rollback.specs.declared.spec.Spec.{Spec}
use Rattle.rollback.specs.Runs.{WasRun}
use Rattle.rollback.specs.Specs.{IsLeftBy}
use Rattle.rollback.specs.Views.{job_of, ran_of}
use Rattle.rollback.proofs.Commits.{left_by}
use Rattle.rollback.proofs.Fits.{length_below}
use Rattle.tier_laws.specs.Said.{IsStore}
use Rattle.applied_rounds.specs.States.{Stands}

pub was_run : (begins : Beginnings) (job : Job) (s t : Store) (ran : Ran) → AreProper begins → All (BeginsWell begins) job.segs → length job.segs ≤ 16
    → IsStore s → IsRan s t (run_job begins job.segs s ran.steps) ran → WasRun job ran
was_run begins job s t ran proper each few store made = record {
  begins = begins;
  proper = proper;
  each = each;
  few = omega (arith, few);
  start = s;
  numbers = store.values;
  finish = t;
  schedule = ran.steps;
  made = made;
}

-- a run has an end for each segment
pub ends_each : (begins : Beginnings) (segs : List Seg) (s : Store) (schedule : List ℕ) → length (run_job begins segs s schedule).ends ≡ length segs
unfolding run_job
ends_each begins segs s schedule = length-map (below (length segs)) _ ∙ length_below (length segs)

pub run_stands : (begins : Beginnings) (job : Job) (s : Store) (store kept : Holding) (ran : Ran) (spec : Spec)
    → IsRan s store.map (run_job begins job.segs s ran.steps) ran → ran.undo.top ≤ store.room → kept ≡ store → job_of spec ≡ job → ran_of spec ≡ ran
    → Stands spec kept
run_stands begins job s store kept ran spec made room same is_job is_ran = record {
  left = subst (λ z. IsLeftBy (ran_of spec) z) (sym same) (subst (λ z. IsLeftBy z store) (sym is_ran)
      (left_by (run_job begins job.segs s ran.steps) ran s store made room));
  each = ap (λ (z : Ran). length z.outcome.ends) is_ran ∙ ap (λ (z : Outcome). length z.ends) made.outcome_is ∙ ends_each begins job.segs s ran.steps
      ∙ sym (ap (λ (z : Job). length z.segs) is_job);
}
