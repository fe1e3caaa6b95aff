-- The machine's vectors as the machine's state.
use Rattle.std.specs.Prelude.{◌≡◌, ℕ, ◌+◌, ◌==◌, ◌||◌, Bool, true, false, List, [], ◌∷◌, length, Option, if◌then◌else◌, slice_index_or}
use Rattle.std.specs.Prelude.{◌<◌}
use Rattle.std.specs.List.{All}
use Rattle.aeg_base.specs.declared.names.Key.{Key}
use Rattle.svc_api.specs.declared.action.Ending.TheVariants.{Reply}
use Rattle.svc_api.specs.Plan.{Plan, Reads, Writes, Ends}
use Rattle.aeg_base.specs.Store.{Store, value_at, written}
use Rattle.aeg_base.specs.Locks.{lock_number}
use Rattle.exec_model.specs.Machine.{State, Progress, Running, Ended, update, touch, leave, next}
use Rattle.exec_model.specs.declared.job.Seg.{Seg}
use Rattle.exec_model.specs.Jobs.{Beginnings, plan_at}
use Rattle.exec_core.specs.declared.machine.Slot.{Slot}
use Rattle.exec_core.specs.declared.machine.Machine.{Machine}
use Rattle.exec_core.specs.declared.steps.Went.{Went}
use Rattle.exec_core.specs.declared.steps.Went.TheVariants.{Moved, Left, Busy, Skipped}

abbrev pub slot_progress : {P : Type 0} → (P → Option ℕ → Plan) → Slot P → Progress
slot_progress plan (Slot.Running p last) = Running (plan p last)
slot_progress plan (Slot.Ended e) = Ended e

-- the progress of each segment
abbrev pub progress_of : {P : Type 0} → (P → Option ℕ → Plan) → List (Slot P) → ℕ → Progress
progress_of plan slots = λ i. slot_progress plan (slice_index_or slots i (Slot.Ended (Reply [])))

-- the owner of each lock
abbrev pub owner_of : List ℕ → ℕ → ℕ
owner_of owner = λ l. slice_index_or owner l 0

abbrev pub IsRunning : {P : Type 0} → Slot P → Type 0
IsRunning (Slot.Running p last) = Unit {0}
IsRunning (Slot.Ended e) = ⊥

-- the lock is free, or the segment's own
abbrev pub may : (ℕ → ℕ) → ℕ → Key → Bool
may w i k = (w (lock_number k) == 0) || (w (lock_number k) == i + 1)

-- from this progress, owners and store the step comes to this, and leaves those
abbrev pub Goes : ℕ → Progress → (ℕ → ℕ) → Store → Went → Progress → (ℕ → ℕ) → Store → Type 0
Goes i (Running (Reads k f)) w s Moved x w' s' = (may w i k ≡ true) × (x ≡ Running (f (value_at s k))) × (w' ≡ update w (lock_number k) (i + 1)) × (s' ≡ s)
Goes i (Running (Reads k f)) w s Busy x w' s' = (may w i k ≡ false) × (s' ≡ s)
Goes i (Running (Writes k v p)) w s Moved x w' s' = (may w i k ≡ true) × (x ≡ Running p) × (w' ≡ update w (lock_number k) (i + 1)) × (s' ≡ written s k v)
Goes i (Running (Writes k v p)) w s Busy x w' s' = (may w i k ≡ false) × (s' ≡ s)
Goes i (Running (Ends e)) w s Left x w' s' = (x ≡ Ended e) × ((l : ℕ) → w' l ≡ (if w l == i + 1 then 0 else w l)) × (s' ≡ s)
Goes i (Ended e) w s Skipped x w' s' = (x ≡ Ended e) × (w' ≡ w) × (s' ≡ s)
Goes i x w s went x' w' s' = ⊥

abbrev pub state_of : {P : Type 0} → (P → Option ℕ → Plan) → Machine P → Store → State → State
state_of plan m s t = record t {
  store = s;
  owner = owner_of m.owner.items;
  progress = progress_of plan m.slots.items;
  done = m.done.items;
  steps = m.steps.items;
}

-- one step of segment i, before the next group is looked for
abbrev pub raw : (ℕ → Plan) → State → ℕ → Progress → State
raw plan t i (Running (Reads k f)) = touch plan t i k t.store (f (value_at t.store k))
raw plan t i (Running (Writes k v p)) = touch plan t i k (written t.store k v) p
raw plan t i (Running (Ends e)) = leave t i e
raw plan t i (Ended e) = t

abbrev pub went_on : (ℕ → Plan) → State → ℕ → State
went_on plan t i = raw plan t i (t.progress i)

-- the whole state, but for the groups around this one
abbrev pub whole_of : {P : Type 0} → (P → Option ℕ → Plan) → Machine P → Store → Store → State → State
whole_of plan m s b t = state_of plan m s (record t { base = b; redo = m.redo })

-- how many steps the slot has left at most
abbrev pub slot_left : {P : Type 0} → (P → ℕ) → Slot P → ℕ
slot_left left (Slot.Running p last) = left p + 1
slot_left left (Slot.Ended e) = 0

abbrev pub left_of : {P : Type 0} → (P → ℕ) → List (Slot P) → ℕ → ℕ
left_of left slots i = slot_left left (slice_index_or slots i (Slot.Ended (Reply [])))

-- the state, where `over` says that the group has ended
abbrev pub going : {P : Type 0} → (P → Option ℕ → Plan) → Machine P → Store → Store → Bool → State → State
going plan m s b over t = if over then next (whole_of plan m s b t) else whole_of plan m s b t

-- each member has a slot, and is small
abbrev pub AreMembers : ℕ → List (List ℕ) → Type 0
AreMembers n [] = Unit {0}
AreMembers n (g ∷ gs) = All (λ j. j < n) g × All (λ j. j < 255) g × AreMembers n gs

-- where the first of these groups begins
abbrev pub begun : {P : Type 0} → (P → Option ℕ → Plan) → Machine P → Store → List ℕ → List (List ℕ) → State → State
begun plan m s order groups t = record t {
  store = s;
  owner = owner_of m.owner.items;
  progress = progress_of plan m.slots.items;
  base = s;
  past = order;
  group = elim groups [ [] ↦ [] | g ∷ gs ↦ g ];
  done = [];
  later = elim groups [ [] ↦ [] | g ∷ gs ↦ gs ];
  redo = m.redo;
  steps = m.steps.items;
}

-- the slots of segments that are about to begin
pub record AreBegun {P : Type 0} (plan : P → Option ℕ → Plan) (begins : Beginnings) (segs : List Seg) (slots : List (Slot P)) : Type 0 where
  pub each : length slots ≡ length segs
  pub programs : (j : ℕ) → j < length segs → progress_of plan slots j ≡ Running (plan_at begins segs j)
