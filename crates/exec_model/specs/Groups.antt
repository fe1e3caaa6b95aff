-- The groups of a job: segments whose declared locks don't meet.
pub use Rattle.svc_api.specs.Orders.{times, IsOrder}
use Rattle.std.specs.Prelude.{ℕ, zero, suc, Bool, true, false, ◌&&◌, ◌||◌, not, List, [], ◌∷◌, ◌++◌, if◌then◌else◌}

-- no group is empty
abbrev pub AreFull : List (List ℕ) → Type 0
AreFull [] = Unit {0}
AreFull ([] ∷ gs) = ⊥
AreFull ((i ∷ is) ∷ gs) = AreFull gs

-- some lock is in both sets
abbrev pub shares_lock : List Bool → List Bool → Bool
shares_lock [] ys = false
shares_lock (x ∷ xs) [] = false
shares_lock (x ∷ xs) (y ∷ ys) = (x && y) || shares_lock xs ys

-- no member of the group has a set that shares a lock with this one
abbrev pub fits : (ℕ → List Bool) → List Bool → List ℕ → Bool
fits sets set [] = true
fits sets set (j ∷ js) = not (shares_lock set (sets j)) && fits sets set js

-- segment i goes into the first group that it fits
abbrev pub place : (ℕ → List Bool) → ℕ → List (List ℕ) → List (List ℕ)
place sets i [] = (i ∷ []) ∷ []
place sets i (g ∷ gs) = if fits sets (sets i) g then (g ++ i ∷ []) ∷ gs else g ∷ place sets i gs

-- the groups of the first n segments
abbrev pub mix : (ℕ → List Bool) → ℕ → List (List ℕ)
mix sets zero = []
mix sets (suc n) = place sets n (mix sets n)
