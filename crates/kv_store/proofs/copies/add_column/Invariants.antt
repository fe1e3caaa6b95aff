use Rattle.std.proofs.Common.{◌≡◌, ◌++◌, drop}
use Rattle.kv_store.specs.Columns.{keyed}
use Rattle.kv_store.proofs.copies.add_column.Given as goal

-- what is left gives what all gives
abbrev pub invariant-pairs : goal.invariant-pairs
invariant-pairs l = l.pairs.items ++ keyed l.class (drop l.id-index l.column) ≡ l.fn.pairs.items ++ keyed l.class l.column
