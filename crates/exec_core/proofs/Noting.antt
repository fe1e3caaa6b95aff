-- What a turn adds to the steps.
use Rattle.std.proofs.Common.{◌≡◌, ℕ, Bool, true, false, [], ◌∷◌, ◌++◌, refl, ap, ◌∙◌, ◌⊎◌, inl, inr, cond}
use Rattle.aeg_base.specs.Store.{value_at, written}
use Rattle.svc_api.specs.Plan.{Plan, Reads, Writes, Ends}
use Rattle.exec_model.specs.Machine.{State, Progress, Running, Ended, is_running, touch, leave, act, turn}
use Rattle.svc_api.specs.Orders.{mem}
use Rattle.exec_model.proofs.Finish.{settle-steps, touch-steps}

act_steps : (plans : ℕ → Plan) (t : State) (i : ℕ) (x : Progress) → is_running x ≡ true → (act plans t i x).steps ≡ t.steps ++ i ∷ []
act_steps plans t i (Running (Reads k f)) r = settle-steps (touch plans t i k t.store (f (value_at t.store k)))
    ∙ touch-steps plans t i k t.store (f (value_at t.store k))
act_steps plans t i (Running (Writes k v p)) r = settle-steps (touch plans t i k (written t.store k v) p) ∙ touch-steps plans t i k (written t.store k v) p
act_steps plans t i (Running (Ends e)) r = settle-steps (leave t i e)
act_steps plans t i (Ended e) r = cc

-- a segment of the group that runs makes a step
pub turn_steps : (plans : ℕ → Plan) (t : State) (i : ℕ) → mem i t.group ≡ true → is_running (t.progress i) ≡ true → (turn plans t i).steps ≡ t.steps ++ i ∷ []
turn_steps plans t i m r = ap (λ c. (cond c (act plans t i (t.progress i)) t).steps) m ∙ act_steps plans t i (t.progress i) r

still_steps : (plans : ℕ → Plan) (t : State) (i : ℕ) (x : Progress) → is_running x ≡ false → (act plans t i x).steps ≡ t.steps
still_steps plans t i (Running p) r = cc
still_steps plans t i (Ended e) r = refl

-- and at most one step is made
pub turn_most : (plans : ℕ → Plan) (t : State) (i : ℕ) → mem i t.group ≡ true → ((turn plans t i).steps ≡ t.steps)
    ⊎ ((turn plans t i).steps ≡ t.steps ++ i ∷ [])
turn_most plans t i m = at (is_running (t.progress i)) refl
  where
    at : (c : Bool) → is_running (t.progress i) ≡ c → ((turn plans t i).steps ≡ t.steps) ⊎ ((turn plans t i).steps ≡ t.steps ++ i ∷ [])
    at true r = inr (turn_steps plans t i m r)
    at false r = inl (ap (λ c. (cond c (act plans t i (t.progress i)) t).steps) m ∙ still_steps plans t i (t.progress i) r)
