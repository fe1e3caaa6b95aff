use Rattle.std.proofs.Common.{refl}
use Rattle.tier_nodes.proofs.Answered.{tells}
use Rattle.tier_nodes.proofs.Seated.{at_up, seen_up}
use Rattle.tier_nodes.specs.Seats.{seat_of}
use Rattle.tier_nodes.proofs.posts.Post.retry.Goals as goal

pub returns-clause-tells : goal.returns-clause-tells
returns-clause-tells g c =
    let node = c.args.self.now.node in
    let old = seat_of g.N.TierNode.seen c.args.self.now in
    tells (g.N.TierNode.IsIn node) g.N.TierNode.log_in old _ c.args.out.now c.retry.new.out (g.N.TierNode.kind node).retry c.retry.result
    (seen_up old c.requires.up)
    (λ s e. g.met.N.TierNode.retries node s c.keep.ensures.member (at_up (g.N.TierNode.IsIn node) old.view.up s e c.keep.ensures.range))
    (λ s. g.met.N.TierNode.silent node s) c.retry.ensures.told refl refl
