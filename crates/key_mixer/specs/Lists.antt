-- Groups and sets as lists.
use Rattle.std.specs.Prelude.{◌≡◌, ℕ, zero, suc, Bool, true, false, List, [], ◌∷◌, map, slice_index_or}
use Rattle.std.specs.declared.vec.Vec.{Vec}
use Rattle.std.specs.declared.alloc.Global.{Global}
use Rattle.aeg_base.specs.Locks.{no_locks}
use Rattle.exec_model.specs.Groups.{fits}

abbrev pub lists_of : List (Vec ℕ Global) → List (List ℕ)
lists_of groups = map (λ g. g.items) groups

-- the set of each segment
abbrev pub set_at : List (List Bool) → ℕ → List Bool
set_at sets i = slice_index_or sets i no_locks

-- the segment fits the group at this place and none before, or no group
abbrev pub FirstFit : (ℕ → List Bool) → ℕ → List (List ℕ) → ℕ → Type 0
FirstFit sets i [] at = Unit {0}
FirstFit sets i (g ∷ gs) zero = fits sets (sets i) g ≡ true
FirstFit sets i (g ∷ gs) (suc at) = (fits sets (sets i) g ≡ false) × FirstFit sets i gs at
