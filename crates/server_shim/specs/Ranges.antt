-- What a backend replica keeps, in the ranges that frames and records can carry.
use Rattle.std.specs.Prelude.{◌≡◌, ℕ, ◌<◌, ◌≤◌, ◌^◌, List, length, Option, IfSome}
use Rattle.std.specs.List.{AllByRecursion}
use Rattle.log_values.specs.Fields.{IsCallNumber, IsText}
use Rattle.round_model.specs.Shims.{ShimState}

-- a call's number, and its code
abbrev pub IsCode : ℕ × ℕ → Type 0
IsCode e = IsCallNumber e.0 × (e.1 < 256)

-- a call's number, and its text
abbrev pub IsCall : ℕ × List ℕ → Type 0
IsCall e = IsCallNumber e.0 × IsText e.1

-- what the nodes of a tier gave of a call, at most five
abbrev pub AreTexts : List (Option (List ℕ)) → Type 0
AreTexts copies = AllByRecursion (λ copy. IfSome copy IsText) copies

-- a call's number, and the copies of it
abbrev pub AreCopies : ℕ × List (Option (List ℕ)) → Type 0
AreCopies e = IsCallNumber e.0 × ((length e.1 ≡ 5) × AreTexts e.1)

-- a floor, settled or told: at least 1
abbrev pub IsFloorIn : ℕ → Type 0
IsFloorIn g = (1 ≤ g) × (g < 2 ^ 32)

-- what a node keeps of 2u+1 middle nodes
pub record IsShimIn (u : ℕ) (s : ShimState) : Type 0 where
  pub faults : s.faults ≡ u
  pub kept : AllByRecursion IsCode s.kept
  pub floor : IsFloorIn s.floor
  pub copies : AllByRecursion AreCopies s.copies
  pub places : length s.floors ≡ 5
  pub floors : AllByRecursion IsFloorIn s.floors
