use Rattle.std.proofs.Common.{◌∙◌, ap, Err}
use Rattle.std.proofs.lemmas.Result.{err_from_is_err_and}
use Rattle.world.proofs.Rows.BackRows.{retries, retries_none}
use Rattle.world.proofs.nodes.back_node.BackNode.retry.Goals as goal

pub returns : goal.returns
returns c disk = retries c.self.inside.node c.args.self.now disk c.args.out.now c.ask.new.out c.self.view_is
    c.self.invariant.1 c.self.invariant.2 c.in_ok-ask.ensures.range c.in_ok-ask.ensures.packets

pub returns-in_err-ask : goal.returns-in_err-ask
returns-in_err-ask c disk =
    let p = err_from_is_err_and c.from_residual.result c.from_residual.ensures.1 in
    retries_none c.args.self.now disk c.args.out.now c.ask.new.out c.from_residual.result (p.1 ∙ ap Err p.2)
