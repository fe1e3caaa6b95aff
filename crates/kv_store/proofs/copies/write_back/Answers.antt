use Rattle.std.proofs.Common.{arith}
use Rattle.kv_store.proofs.Unwinding.{key_at}
use Rattle.kv_store.proofs.copies.write_back.Goals as goal

pub put-requires : goal.put-requires
put-requires c = key_at c.args.entries.now _ _ c.requires (let some = c.entries-test.true in let within = c.entries.invariant.within in omega arith)
