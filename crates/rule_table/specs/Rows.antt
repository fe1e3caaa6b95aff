-- The first row that holds.
use Rattle.std.specs.Prelude.{◌≢◌, ℕ, ◌<◌, Bool, List, [], ◌∷◌, length, slice_index, Option, None, Some, if◌then◌else◌}

-- the number beside the first true
abbrev pub first_row : List ℕ → List Bool → Option ℕ
first_row [] holds = None
first_row (number ∷ numbers) [] = None
first_row (number ∷ numbers) (held ∷ holds) = if held then Some number else first_row numbers holds

-- there is one, none is 0, and no two are equal
abbrev pub AreRows : List ℕ → Type 0
AreRows numbers = (0 < length numbers)
    × (((k : ℕ) → k < length numbers → slice_index numbers k ≢ 0)
    × ((j k : ℕ) → j < k → k < length numbers → slice_index numbers j ≢ slice_index numbers k))
