use Rattle.std.proofs.Common.{arith}
use Rattle.world.proofs.Rows.PendingPlaces.{batch_next, batch_made, batch_fits, batch_stands}
use Rattle.world.proofs.nodes.pending.Pending.batch.Goals as goal

pub loop-client-preserved : goal.loop-client-preserved
loop-client-preserved c = batch_next c.self.inside.entries c.loop-client.client c.from.result c.loop-client.batch.items
    c.join.new.batch.items c.index-self-from.result c.self.invariant.places (omega arith) c.loop-client.invariant
    c.from.ensures c.in_ok-join.ensures

pub returns-clause-batch : goal.returns-clause-batch
returns-clause-batch c depth = batch_made depth c.loop-client.client c.self.inside.entries c.args.self.now
    c.loop-client.batch.items c.self.invariant c.self.view_is (omega arith) c.loop-client.invariant

pub returns-clause-fit : goal.returns-clause-fit
returns-clause-fit c = batch_fits c.self.inside.entries c.loop-client.client c.loop-client.batch.items c.self.invariant c.loop-client.invariant

pub returns-clause-fits : goal.returns-clause-fits
returns-clause-fits c depth = batch_stands depth c.self.inside.entries c.args.self.now c.self.invariant c.self.view_is

pub returns-in_err-join-clause-fits : goal.returns-in_err-join-clause-fits
returns-in_err-join-clause-fits c depth = batch_stands depth c.self.inside.entries c.args.self.now c.self.invariant c.self.view_is
