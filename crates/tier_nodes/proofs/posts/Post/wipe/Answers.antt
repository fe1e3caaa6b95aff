use Rattle.tier_nodes.proofs.Powered.{wipes}
use Rattle.tier_nodes.specs.Seats.{seat_of}
use Rattle.tier_nodes.proofs.posts.Post.wipe.Goals as goal

pub returns-clause-wipes : goal.returns-clause-wipes
returns-clause-wipes g c =
    let seen = g.N.TierNode.seen in
    wipes g.N.TierNode.log_in (seat_of seen c.args.self.now) (seat_of seen c.leave.new.self) (g.D.Disk.state c.args.disk.now)
    (g.D.Disk.state c.erase.new.self) c.leave.ensures.gone c.leave.ensures.sure c.leave.ensures.same c.erase.ensures
