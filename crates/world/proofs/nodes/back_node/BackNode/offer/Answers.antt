use Rattle.std.proofs.Common.{◌∙◌, sym}
use Rattle.world.proofs.Rows.BackRows.{offers_idle, offers_none}
use Rattle.world.proofs.nodes.back_node.BackNode.offer.Goals as goal

pub returns-in-Some : goal.returns-in-Some
returns-in-Some c disk out = offers_idle c.self.inside.node c.args.self.now disk out c.wants.result c.in-Some.cause
    c.self.view_is c.wants.ensures.offering (sym c.offer_cause.ensures ∙ c.in-Some.is)

pub returns : goal.returns
returns c disk out = offers_none c.self.inside.node c.args.self.now disk out c.wants.result c.self.view_is
    c.self.invariant.0 c.wants.ensures.range c.wants.ensures.offering (sym c.offer_cause.ensures ∙ c.in_default.is)
