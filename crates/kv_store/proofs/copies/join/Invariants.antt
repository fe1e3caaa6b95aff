use Rattle.std.proofs.Common.{◌≡◌, ◌++◌, drop}
use Rattle.kv_store.specs.Columns.{all_pairs, lists_of}
use Rattle.kv_store.proofs.copies.join.Given as goal

-- what is left gives what all gives
abbrev pub invariant-columns : goal.invariant-columns
invariant-columns l = l.pairs.items ++ all_pairs l.class (drop l.class (lists_of l.columns)) ≡ all_pairs 0 (lists_of l.columns)
