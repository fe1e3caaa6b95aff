use Rattle.std.proofs.Common.{arith}
use Rattle.applied_rounds.proofs.applied.Applied.applied.Goals as goal

pub returns-clause-few : goal.returns-clause-few
returns-clause-few c = omega (arith, c.applied.ensures, c.self.invariant.out, c.self.invariant.range.rounds)
