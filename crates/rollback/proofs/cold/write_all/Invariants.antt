use Rattle.std.proofs.Common.{◌≡◌, ◌+◌, ◌-◌, ◌≤◌, drop, length}
use Rattle.aeg_base.specs.Store.{written_all}
use Rattle.kv_store.specs.Stores.{size}
use Rattle.rollback.proofs.cold.write_all.Given as goal

-- what is written, and room for what is left
abbrev pub invariant-pairs : goal.invariant-pairs
invariant-pairs l = record {
  written : written_all l.store.map (drop l.key-index l.pairs) ≡ written_all l.fn.store.map l.pairs;
  room : size l.store.map + (length l.pairs - l.key-index) ≤ l.store.room;
  list_room : length l.undo.entries + (length l.pairs - l.key-index) ≤ l.undo.room;
}
