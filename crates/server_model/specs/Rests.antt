-- The lines that are left to read.
use Rattle.std.specs.Prelude.{ℕ, ◌+◌, length, List, [], Option, None, Some}
use Rattle.std.specs.Borrow.{Bor}
use Rattle.server_model.specs.Single.{lines_of}

abbrev pub lines_left : Option (Bor (List ℕ)) → List (List ℕ)
lines_left None = []
lines_left (Some rest) = lines_of rest.now

-- a text that is left has its bytes and an end
abbrev pub size_left : Option (Bor (List ℕ)) → ℕ
size_left None = 0
size_left (Some rest) = length rest.now + 1
