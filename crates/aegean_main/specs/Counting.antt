-- How many steps an input has.
use Rattle.std.specs.Prelude.{ℕ, ◌+◌, length}
use Rattle.std.specs.declared.result.Result.{Result}
use Rattle.std.specs.declared.result.Result.TheVariants.{Ok, Err}
use Rattle.server_model.specs.Single.{Judged, Reads, Fails}

-- the number of the steps, or the first line that is refused, with its row
abbrev pub steps_in : Judged → Result ℕ (ℕ × ℕ)
steps_in (Reads steps) = Ok (length steps)
steps_in (Fails line row) = Err (line, row)

-- with so many steps in front
abbrev pub counted : ℕ → Result ℕ (ℕ × ℕ) → Result ℕ (ℕ × ℕ)
counted count (Ok more) = Ok (count + more)
counted count (Err bad) = Err bad
