-- A ballot, a position and a value as text.
use Rattle.std.specs.Prelude.{ℕ, List, ◌++◌}
use Rattle.std.specs.Int.{w16, to_be_bytes}
use Rattle.aeg_base.specs.declared.names.Ballot.{Ballot}
use Rattle.log_values.specs.declared.any_value.AnyValue.{AnyValue}
use Rattle.log_values.specs.Fields.{ballot}
use Rattle.log_values.specs.Values.{any_value}

abbrev pub vote : Ballot → ℕ → AnyValue → List ℕ
vote b pos v = ballot b ++ (to_be_bytes w16 pos ++ any_value v)
