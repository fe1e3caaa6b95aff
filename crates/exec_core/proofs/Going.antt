-- Whether a segment can make its next step.
use Rattle.std.proofs.Common.{◌≡◌, ℕ, ◌&&◌, Bool, true, false, List, [], ◌∷◌, drop, Option, Result, Ok, Err, refl, sym, ap, ◌∙◌}
use Rattle.std.specs.Prelude.{IfOk}
use Rattle.std.proofs.lemmas.Bool.{and_parts, both_ways}
use Rattle.aeg_base.specs.Store.{Store}
use Rattle.svc_api.specs.Plan.{Plan}
use Rattle.svc_api.specs.Orders.{mem}
use Rattle.exec_model.specs.declared.job.Seg.{Seg}
use Rattle.exec_model.specs.Machine.{State, is_running, any_running}
use Rattle.exec_model.specs.Jobs.{Beginnings, run_job}
use Rattle.exec_model.proofs.Inv.{any_running-false}
use Rattle.key_mixer.specs.Lists.{lists_of}
use Rattle.exec_core.specs.declared.work.Work.{Work}
use Rattle.exec_core.specs.declared.ran.Ran.{Ran}
use Rattle.exec_core.specs.Jobs.{IsRan}
use Rattle.exec_core.specs.States.{progress_of}
use Rattle.exec_core.specs.Underway.{IsReached, can_step, state_at, state_after}
use Rattle.exec_core.proofs.Underway.{state_here}

-- what can't be true is false
pub not_so : (b : Bool) → (b ≡ true → ⊥) → false ≡ b
not_so true h = absurd (h refl)
not_so false h = refl

-- where no group is left none goes on
pub none_left : {P : Type 0} (plan : P → Option ℕ → Plan) (w : Work P) (i : ℕ) → drop w.at (lists_of w.groups.items) ≡ [] → false ≡ can_step (state_at plan w) i
none_left plan w i e = sym (ap (λ (t : State). can_step t i) (state_here plan w [] e))

-- no member of a group that is over goes on, whichever group is at work then
pub none_on : {P : Type 0} (plan : P → Option ℕ → Plan) (w w' : Work P) (xs : List ℕ) (i : ℕ) → mem i xs ≡ true
    → any_running (progress_of plan w.m.slots.items) xs ≡ false → w'.m.slots ≡ w.m.slots
    → false ≡ can_step (state_at plan w') i
none_on plan w w' xs i m over same =
    not_so (can_step (state_at plan w') i) (λ on.
    both_ways (is_running (progress_of plan w'.m.slots.items i))
    ((λ n. is_running (progress_of plan (same n).items i)) ∙ any_running-false (progress_of plan w.m.slots.items) xs over i m)
    (and_parts _ _ on).1)

-- a member of the group at work goes on if it runs
pub on_here : {P : Type 0} (plan : P → Option ℕ → Plan) (w : Work P) (g : List ℕ) (rest : List (List ℕ)) (i : ℕ)
    (on : Bool) → drop w.at (lists_of w.groups.items) ≡ g ∷ rest → mem i g ≡ true
    → on ≡ is_running (progress_of plan w.m.slots.items i) → on ≡ can_step (state_at plan w) i
on_here plan w g rest i on at m e =
    let here : mem i (state_at plan w).group ≡ true = ap (λ (t : State). mem i t.group) (state_here plan w (g ∷ rest) at) ∙ m in
    e ∙ sym (ap (λ (b : Bool). b && is_running (progress_of plan w.m.slots.items i)) here)

-- the state after the steps so far tells who can step
pub on_after : {P : Type 0} (plan : P → Option ℕ → Plan) (begins begins' : Beginnings) (segs segs' : List Seg) (s s' : Store) (w : Work P) (i : ℕ)
    → begins ≡ begins' → segs ≡ segs' → s ≡ s' → IsReached plan begins segs s w
    → can_step (state_at plan w) i ≡ can_step (state_after begins' segs' s' w.m.steps.items) i
on_after plan begins begins' segs segs' s s' w i b j t r =
    let same : state_after begins' segs' s' w.m.steps.items ≡ state_at plan w = (λ k. state_after (sym b k) (sym j k) (sym t k) w.m.steps.items) ∙ r.state in
    sym (ap (λ (u : State). can_step u i) same)

-- what ran this job by a schedule made the steps that the task's run by it has
pub task_steps : {E : Type 0} (begins begins' : Beginnings) (segs segs' : List Seg) (s s' t : Store) (schedule : List ℕ)
    (r : Result Ran E) → begins ≡ begins' → segs ≡ segs' → s ≡ s'
    → IfOk r (IsRan s t (run_job begins segs s schedule)) → IfOk r (λ ran. ran.steps ≡ (run_job begins' segs' s' schedule).steps)
task_steps begins begins' segs segs' s s' t schedule (Ok ran) b j e made = made.steps ∙ (λ k. (run_job (b k) (j k) (e k) schedule).steps)
task_steps begins begins' segs segs' s s' t schedule (Err x) b j e made = tt
