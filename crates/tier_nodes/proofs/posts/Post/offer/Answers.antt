use Rattle.std.proofs.Common.{ap, subst, sym}
use Rattle.node_log.specs.Views.{MayWrite}
use Rattle.tier_nodes.proofs.Answered.{comes}
use Rattle.tier_nodes.proofs.Seated.{at_up, may_write}
use Rattle.tier_nodes.specs.declared.posts.Post.{Post}
use Rattle.tier_nodes.specs.Seats.{seat_of}
use Rattle.tier_nodes.proofs.posts.Post.offer.Goals as goal

pub offer-answer-requires-clause-disk : goal.offer-answer-requires-clause-disk
offer-answer-requires-clause-disk g c =
    let seen = g.N.TierNode.seen in
    subst (λ z. MayWrite (seen c.args.self.now.node) z) (sym c.arm.ensures)
    (may_write g.N.TierNode.log_in (seat_of seen c.args.self.now) (g.D.Disk.state c.args.disk.now) c.args.stop c.requires.stands c.requires.up)

pub returns-clause-comes : goal.returns-clause-comes
returns-clause-comes g c =
    let node = c.args.self.now.node in
    let seen = g.N.TierNode.seen in
    let state = g.D.Disk.state in
    let post = c.settle-fared.ensures.post in
    comes (g.N.TierNode.IsIn node) g.N.TierNode.log_in (seat_of seen c.args.self.now) (seat_of seen c.settle-fared.new.self) c.args.out.now
    c.offer-answer.new.out (g.N.TierNode.kind node).offers (seen c.offer-answer.new.self) (state c.args.disk.now) (state c.arm.new.disk)
    (state c.offer-answer.new.disk) (state c.settle-fared.new.disk) c.args.stop c.offer-answer.result c.settle-fared.result
    c.requires.stop c.requires.up
    (λ s e. let range = at_up (g.N.TierNode.IsIn node) (seen node).up s e c.keep.ensures.range in
    g.met.N.TierNode.offering node s c.keep.ensures.member range)
    c.arm.ensures c.offer-answer.ensures.moved (ap (λ (z : Post _). seen z.node) post) (ap (λ (z : Post _). z.gone) post)
    (ap (λ (z : Post _). z.doubt) post) c.settle-fared.ensures.fared c.settle-fared.ensures.rests
