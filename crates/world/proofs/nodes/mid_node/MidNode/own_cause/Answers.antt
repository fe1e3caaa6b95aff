use Rattle.world.proofs.Rows.MidOffers.{past_cause}
use Rattle.world.proofs.nodes.mid_node.MidNode.own_cause.Goals as goal

pub returns-then-first_open-gt0 : goal.returns-then-first_open-gt0
returns-then-first_open-gt0 c = past_cause c.self.inside.node c.self.inside.depth c.self.inside.pending c.args.self.now
    c.first_open.result c.self.view_is c.self.invariant.0 c.first_open.ensures.range c.first_open.ensures.position
    c.if-first_open-gt0.true
