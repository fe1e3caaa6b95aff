use Rattle.std.proofs.Common.{ap}
use Rattle.tier_nodes.proofs.Powered.{rises}
use Rattle.tier_nodes.specs.declared.posts.Post.{Post}
use Rattle.tier_nodes.specs.Seats.{seat_of}
use Rattle.tier_nodes.proofs.posts.Post.restart.Goals as goal

pub returns-clause-rises : goal.returns-clause-rises
returns-clause-rises g c =
    let node = c.args.self.now.node in
    let seen = g.N.TierNode.seen in
    let state = g.D.Disk.state in
    let post = c.rise-found.ensures.post in
    rises g.N.TierNode.log_in (g.N.TierNode.kind node).recovered (seat_of seen c.args.self.now) (seat_of seen c.rise-found.new.self)
    (seen c.restart-answer.new.self) c.place-known.result (state c.args.disk.now) (state c.power.new.self) (state c.restart-answer.new.disk)
    c.restart-answer.result c.rise-found.result (λ rs fit. (g.met.N.TierNode.restored node rs c.keep.ensures.member fit).opens) c.requires
    c.power.ensures.on c.restart-answer.ensures.restarted (ap (λ (z : Post _). seen z.node) post) (ap (λ (z : Post _). z.gone) post)
    (ap (λ (z : Post _). z.doubt) post) c.place-known.ensures c.rise-found.ensures.found
