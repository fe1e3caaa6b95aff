use Rattle.std.proofs.Common.{◌≡◌, ◌≤◌, length, drop}
use Rattle.kv_store.specs.Stores.{touched}
use Rattle.kv_store.proofs.copies.mark.Given as goal

abbrev pub invariant-entries : goal.invariant-entries
invariant-entries l = record {
  map : l.store.map ≡ touched (drop l.left l.entries) l.fn.store.map;
  within : l.left ≤ length l.entries;
}

abbrev pub decreases-entries : goal.decreases-entries
decreases-entries l = l.left
