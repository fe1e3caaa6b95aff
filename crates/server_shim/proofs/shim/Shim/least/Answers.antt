use Rattle.server_shim.proofs.Waiting.{least_in, nothing_in}
use Rattle.server_shim.proofs.shim.Shim.least.Goals as goal

pub returns-clause-least : goal.returns-clause-least
returns-clause-least c =
    least_in _ _ c.args.self.now c.self.inside.calls.ready c.first.result c.self.view_is c.self.invariant.2 c.self.invariant.3
    c.first.ensures.least

pub returns-clause-nothing : goal.returns-clause-nothing
returns-clause-nothing c =
    nothing_in _ _ c.args.self.now c.self.inside.calls.ready c.first.result c.self.view_is c.self.invariant.2 c.first.ensures.least
