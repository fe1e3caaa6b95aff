-- The parts of the text behind a separator, if there is any.
use Rattle.std.specs.Prelude.{ℕ, List, [], Option, None, Some}
use Rattle.std.specs.Borrow.{Bor}
use Rattle.server_model.specs.Words.{parts_of}

-- no parts, where there is no text
abbrev pub further_parts : ℕ → Option (Bor (List ℕ)) → List (List ℕ)
further_parts separator None = []
further_parts separator (Some rest) = parts_of separator rest.now
