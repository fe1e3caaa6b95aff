-- A run's own steps lead to what it left.
use Rattle.std.proofs.Common.{◌≡◌, List, ℕ, Result, Ok, Err, sym, ap, subst, ◌∙◌}
use Rattle.std.specs.Prelude.{IfOk, OnOk}
use Rattle.aeg_base.specs.Store.{Store}
use Rattle.exec_model.specs.declared.job.Seg.{Seg}
use Rattle.exec_model.specs.Jobs.{Beginnings, Run, run_job}
use Rattle.exec_model.proofs.Outcome.{run_job-steps}
use Rattle.exec_core.specs.declared.ran.Ran.{Ran}
use Rattle.exec_core.specs.Jobs.{IsRan}

pub replayed : (begins : Beginnings) (segs : List Seg) (s t : Store) (schedule : List ℕ) (ran : Ran)
    → IsRan s t (run_job begins segs s schedule) ran → IsRan s t (run_job begins segs s ran.steps) ran
replayed begins segs s t schedule ran h =
    subst (λ (r : Run). IsRan s t r ran) (sym (run_job-steps begins segs s schedule) ∙ ap (run_job begins segs s) (sym h.steps)) h

-- what holds of a value and a state holds of an answer that is both
pub if_kept : {A B E : Type 0} (P : B → A → Type 0) (x : A) (b b' : B) (r : Result A E) → IfOk r (λ y. y ≡ x) → OnOk r (b' ≡ b) → P b x → IfOk r (P b')
if_kept P x b b' (Ok y) same kept h = subst (P b') (sym same) (subst (λ c. P c x) (sym kept) h)
if_kept P x b b' (Err e) same kept h = tt
