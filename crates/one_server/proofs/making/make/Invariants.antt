use Rattle.std.proofs.Common.{◌≡◌, ◌≤◌, ◌+◌, take, length}
use Rattle.kv_store.specs.Stores.{size}
use Rattle.one_server.specs.Writes.{after}
use Rattle.one_server.proofs.making.make.Given as goal

-- the writes so far were made, each with at most one pair more, and the room has stayed
abbrev pub invariant-loop-write : goal.invariant-loop-write
invariant-loop-write l = record {
  made : l.store.map ≡ after l.fn.store.map (take l.write-index l.writes);
  pairs : size l.store.map ≤ size l.fn.store.map + l.write-index;
  room : l.store.room ≡ l.fn.store.room;
  entries : length l.undo.entries ≡ length l.fn.undo.entries + l.write-index;
  list_room : l.fn.undo.room ≤ l.undo.room;
}
