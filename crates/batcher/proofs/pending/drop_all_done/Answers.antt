use Rattle.std.proofs.Common.{arith}
use Rattle.batcher.proofs.Dropping.{next_done, all_done}
use Rattle.batcher.proofs.pending.drop_all_done.Goals as goal

pub loop-client-preserved : goal.loop-client-preserved
loop-client-preserved c = next_done c.args.clients.now.last c.args.entries.now c.loop-client.entries _ c.loop-client.client c.last-last.result
    c.told-entries (omega arith) c.loop-client.invariant c.last-last.ensures c.drop_if_done.ensures

pub returns : goal.returns
returns c = all_done c.args.clients.now.last c.args.entries.now c.loop-client.entries c.loop-client.client c.told-entries (omega arith)
    c.loop-client.invariant
