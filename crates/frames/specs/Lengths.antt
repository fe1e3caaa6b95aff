-- The length of a body, set in its frame.
use Rattle.std.specs.Prelude.{ℕ, ◌-◌, List, ◌++◌, length, take, drop}
use Rattle.std.specs.Int.{w16, to_be_bytes}

-- the bytes with the length of what follows the first six in the last two of these
abbrev pub sized : List ℕ → List ℕ
sized bytes = take 4 bytes ++ (to_be_bytes w16 (length bytes - 6) ++ drop 6 bytes)
