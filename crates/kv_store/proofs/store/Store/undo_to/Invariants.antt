use Rattle.std.proofs.Common.{◌≡◌, ◌≤◌, length, take, drop}
use Rattle.kv_store.specs.Stores.{unwound, StaysWithin}
use Rattle.kv_store.proofs.store.Store.undo_to.Given as goal

abbrev pub invariant-entries : goal.invariant-entries
invariant-entries l = record {
  map : l.self.map ≡ unwound (drop (length l.list.entries) l.fn.list.entries) l.fn.self.map;
  front : l.list.entries ≡ take (length l.list.entries) l.fn.list.entries;
  left : StaysWithin l.list.top l.list.entries l.self.map;
  top : l.list.top ≡ l.fn.list.top;
  room : l.self.room ≡ l.fn.self.room;
  list_room : l.list.room ≡ l.fn.list.room;
  kept : l.fn.kept ≤ length l.list.entries;
}

abbrev pub decreases-entries : goal.decreases-entries
decreases-entries l = length l.list.entries
