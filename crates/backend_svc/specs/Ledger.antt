-- The amounts that a list of entries is.
use Rattle.std.specs.Prelude.{ℕ, List, [], ◌∷◌}
use Rattle.aeg_base.specs.Numbers.{with_number}
use Rattle.server_model.specs.Backends.{Amounts, no_amounts}

abbrev pub amounts_of : List (ℕ × ℕ) → Amounts
amounts_of [] = no_amounts
amounts_of (entry ∷ entries) = with_number (amounts_of entries) entry.0 entry.1
