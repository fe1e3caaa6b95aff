use Rattle.std.proofs.Common.{arith}
use Rattle.state_verify.proofs.Lowest.{backed_here}
use Rattle.state_verify.proofs.tally.Tally.backed.Goals as goal

pub returns-then-equal_to-self : goal.returns-then-equal_to-self
returns-then-equal_to-self c =
    backed_here c.args.self.now c.self.inside.faults c.self.inside.claims c.from.result c.nodes.node c.equal_to.result c.index-self-from.result c.in-Some.claim
    c.self.view_is c.self.invariant.0 c.self.invariant.1 c.from.ensures (omega arith) c.nodes.invariant c.in-Some.is c.equal_to.ensures c.if-equal_to-self.true
