-- What a sink took, where it tells.
use Rattle.std.specs.Prelude.{◌≡◌, ℕ, List, [], ◌++◌, take, None, Some, MatchResult}
use Rattle.std.specs.declared.result.Result.{Result}
use Rattle.std.specs.declared.option.Option.{Option}

-- The told bytes grew by these. A sink may stop telling, and then it never tells again.
abbrev pub Gains : Option (List ℕ) → Option (List ℕ) → List ℕ → Type 0
Gains None new bytes = new ≡ None
Gains (Some had) None bytes = Unit {0}
Gains (Some had) (Some has) bytes = has ≡ had ++ bytes

-- the told bytes grew by a front of these
abbrev pub GainsFront : Option (List ℕ) → Option (List ℕ) → List ℕ → Type 0
GainsFront old new bytes = (went : ℕ) × Gains old new (take went bytes)

-- a write took the first n bytes of the piece at Ok n, and none at Err
abbrev pub WriteGains : {E : Type 0} → Option (List ℕ) → Option (List ℕ) → Result ℕ E → List ℕ → Type 0
WriteGains old new result piece = MatchResult result (λ n. Gains old new (take n piece)) (λ _. Gains old new [])
