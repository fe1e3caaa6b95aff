use Rattle.std.proofs.Common.{◌≡◌, ◌++◌, drop}
use Rattle.kv_store.specs.Changes.{picked}
use Rattle.kv_store.proofs.store.Store.pick.Given as goal

-- what is left gives what all gives
abbrev pub invariant-pairs : goal.invariant-pairs
invariant-pairs l = l.picks.items ++ picked l.before.map l.self.map (drop l.key-index l.pairs) ≡ picked l.before.map l.self.map l.pairs
