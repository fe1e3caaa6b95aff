use Rattle.std.proofs.Common.{◌∙◌, ap, Err}
use Rattle.std.proofs.lemmas.Result.{err_from_is_err_and}
use Rattle.world.proofs.Rows.MidOffers.{retries, retries_none}
use Rattle.world.proofs.nodes.mid_node.MidNode.retry.Goals as goal

pub returns : goal.returns
returns c disk = retries c.self.inside.node c.self.inside.depth c.self.inside.pending c.args.self.now disk
    c.args.out.now c.ask.new.out c.self.view_is c.self.invariant.0 c.self.invariant.1 c.self.invariant.2
    c.in_ok-ask.ensures.range c.in_ok-ask.ensures.packets

pub returns-in_err-ask : goal.returns-in_err-ask
returns-in_err-ask c disk =
    let p = err_from_is_err_and c.from_residual.result c.from_residual.ensures.1 in
    retries_none c.self.inside.node c.self.inside.depth c.self.inside.pending c.args.self.now disk c.args.out.now
    c.ask.new.out c.from_residual.result c.self.view_is (p.1 ∙ ap Err p.2)
