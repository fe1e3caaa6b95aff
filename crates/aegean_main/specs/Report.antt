-- What a sink took of a line.
use Rattle.std.specs.Prelude.{ℕ, ◌⊎◌, List, Option}
use Rattle.aeg_io.specs.Bytes.{Gains, GainsFront}
use Rattle.aeg_io.specs.Causes.{Rose}

-- the whole line was taken, or a front of it where the sink's faults rose
abbrev pub Tells : List ℕ → Option (List ℕ) → Option (List ℕ) → ℕ → ℕ → Type 0
Tells line old new before now = Gains old new line ⊎ (GainsFront old new line × Rose before now)
