use Rattle.world.proofs.Turns.RestoredLogs.{back_restarts}
use Rattle.world.proofs.nodes.back_node.BackNode.restart.Goals as goal

pub returns : goal.returns
returns g c = back_restarts c.self.inside.node c.restart.new.self c.args.self.now (g.D.Disk.state c.args.disk.now)
    (g.D.Disk.state c.restart.new.disk) c.restart.result c.self.view_is c.self.invariant.0 c.restart.ensures.reads
    c.restart.ensures.later c.restart.ensures.same
