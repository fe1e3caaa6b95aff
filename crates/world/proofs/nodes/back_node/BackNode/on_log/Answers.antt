use Rattle.frames.specs.declared.message.Msg.TheVariants as msgs
use Rattle.log_model.specs.Rows.{on_msg}
use Rattle.tier_model.specs.BackRows.{on_frame}
use Rattle.run_model.specs.BookingRuns.{booking_service}
use Rattle.world.proofs.Turns.FewMessages.{msg_few}
use Rattle.world.proofs.Rows.BackRows.{back_turns, frame_log}
use Rattle.world.proofs.nodes.back_node.BackNode.on_log.Goals as goal

pub returns : goal.returns
returns g c =
    back_turns c.self.inside.node c.on_msg.new.self c.args.self.now (g.D.Disk.state c.args.disk.now)
    (g.D.Disk.state c.on_msg.new.disk) c.args.out.now c.on_msg.new.out
    (λ log. on_msg c.self.inside.node.faults log c.in-Some.index c.args.message.now)
    (λ u t x σ. on_frame u (booking_service.backend t) t x σ c.args.from (msgs.Log c.args.message.now))
    c.on_msg.result c.self.view_is
    c.self.invariant.0 c.self.invariant.1 c.self.invariant.2 c.on_msg.ensures
    (λ log. msg_few c.self.inside.node.faults log c.in-Some.index c.args.message.now)
    (λ log e. frame_log c.self.inside.node.faults c.self.inside.node.tier c.self.inside.node.me log c.args.from
    c.args.message.now c.in-Some.index c.in-Some.ensures.0 c.in-Some.ensures.1.0)
