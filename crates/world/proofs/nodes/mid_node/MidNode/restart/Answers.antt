use Rattle.world.proofs.Turns.RestoredLogs.{mid_restarts}
use Rattle.world.proofs.nodes.mid_node.MidNode.restart.Goals as goal

pub returns : goal.returns
returns g c = mid_restarts c.self.inside.depth c.self.inside.node c.restart.new.self c.self.inside.pending c.new.result
    c.args.self.now (g.D.Disk.state c.args.disk.now) (g.D.Disk.state c.restart.new.disk) c.restart.result c.self.view_is
    c.self.invariant.0 c.requires.down c.new.ensures c.restart.ensures.reads c.restart.ensures.later c.restart.ensures.same
