use Rattle.std.proofs.Common.{arith}
use Rattle.batcher.specs.Tabled.{is_fresh_by}
use Rattle.batcher.proofs.Joining.{next_client, of_client, few}
use Rattle.batcher.proofs.batches.gather.Goals as goal

pub loop-client-preserved : goal.loop-client-preserved
loop-client-preserved g c = next_client (is_fresh_by (g.S.Service.table c.args.svc.now) c.args.clients.now) c.args.entries.now c.loop-client.client
    c.from-place.result c.index-entries-place.result c.loop-client.batch.items c.join.new.batch.items c.requires.places (omega arith)
    c.from-place.ensures c.index-entries-place.is c.loop-client.invariant c.in_ok-join.ensures

pub join-requires-clause-client : goal.join-requires-clause-client
join-requires-clause-client g c = of_client c.args.entries.now c.loop-client.client c.from-place.result c.index-entries-place.result c.requires
    (omega arith) c.from-place.ensures c.index-entries-place.is

pub join-requires-clause-room : goal.join-requires-clause-room
join-requires-clause-room g c = few 8 c.loop-client.batch.items _ c.loop-client.invariant
