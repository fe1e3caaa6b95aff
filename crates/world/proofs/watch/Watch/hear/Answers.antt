use Rattle.std.proofs.Common.{sym, arith}
use Rattle.world.proofs.Votes.OtherFrames.{unheard}
use Rattle.world.proofs.watch.Watch.hear.Goals as goal

pub returns-then-not-is_of_vote : goal.returns-then-not-is_of_vote
returns-then-not-is_of_vote c = sym
    (unheard c.args.self.now c.args.bytes.now (λ i. omega (arith, c.type_inv.bytes i))
    (grind (arith, c.is_of_vote.ensures, c.if-not-is_of_vote.true)))
