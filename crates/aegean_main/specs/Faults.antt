-- How a source or a sink counts its faults.
use Rattle.std.specs.Prelude.{◌≡◌, ℕ}
use Rattle.aeg_io.specs.Causes.{Rose}

-- the count rose where the call answered a fault, and is as it was where it answered anything else
pub record IsCounted (fault : Type 0) (before now : ℕ) : Type 0 where
  pub rose : fault → Rose before now
  pub kept : (fault → ⊥) → now ≡ before
