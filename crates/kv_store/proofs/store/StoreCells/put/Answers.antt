use Rattle.std.proofs.Common.{le_trans}
use Rattle.kv_store.proofs.Sizes.{size-written}
use Rattle.kv_store.proofs.store.StoreCells.put.Goals as goal

pub write-requires-clause-room : goal.write-requires-clause-room
write-requires-clause-room c = le_trans (size-written _ c.args.key c.args.value) c.in_ok-make_room.ensures.room
