use Rattle.std.proofs.Common.{◌≤◌}
use Rattle.kv_store.specs.Stores.{StaysWithin}
use Rattle.base_calls.proofs.store_puts.put_later.Given as goal

abbrev pub invariant-logged : goal.invariant-logged
invariant-logged g l = record {
  left : StaysWithin l.list.top l.list.entries l.store.map;
  room : l.list.top ≤ l.store.room;
}
