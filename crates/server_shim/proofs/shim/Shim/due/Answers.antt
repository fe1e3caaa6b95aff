use Rattle.round_model.proofs.ShimLaws.{due_is}
use Rattle.server_shim.proofs.shim.Shim.due.Goals as goal

pub returns-then-self-floor-clause-greatest : goal.returns-then-self-floor-clause-greatest
returns-then-self-floor-clause-greatest c =
    due_is _ c.args.self.now c.due-floor.result c.self.view_is c.due-floor.ensures.due c.if-self-floor.true
