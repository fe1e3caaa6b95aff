-- Gates, as far as they can be told.
use Rattle.std.specs.Prelude.{ℕ}
use Rattle.exec_core.specs.declared.gate.CrossGate.{CrossGate}

-- for how many turns at most segment 0 is held
abbrev pub limit_of : CrossGate → ℕ
limit_of gate = gate.limit
