use Rattle.std.proofs.Common.{◌≡◌, subst, true}
use Rattle.aeg_base.specs.declared.names.Tier.TheVariants.{Mid}
use Rattle.frames.specs.declared.message.Msg.TheVariants as msgs
use Rattle.log_model.specs.Rows.{on_msg}
use Rattle.tier_model.specs.Moves.{is_node_of}
use Rattle.tier_model.specs.MidRows.{on_frame}
use Rattle.run_model.specs.BookingRuns.{booking_service}
use Rattle.world.proofs.Turns.FewMessages.{msg_few}
use Rattle.world.proofs.Rows.MidRows.{mid_turns, frame_log}
use Rattle.world.proofs.nodes.mid_node.MidNode.on_log.Goals as goal

pub returns : goal.returns
returns g c =
    let peer : is_node_of c.self.inside.node.faults Mid c.args.from ≡ true = subst
    (λ t. is_node_of c.self.inside.node.faults t c.args.from ≡ true) c.self.invariant.0 c.in-Some.ensures.0 in
    mid_turns c.self.inside.depth c.self.inside.pending c.self.inside.node c.on_msg.new.self c.args.self.now
    (g.D.Disk.state c.args.disk.now) (g.D.Disk.state c.on_msg.new.disk) c.args.out.now c.on_msg.new.out
    (λ log. on_msg c.self.inside.node.faults log c.in-Some.index c.args.message.now)
    (λ u x σ. on_frame u booking_service.programs x σ c.args.from (msgs.Log c.args.message.now)) c.on_msg.result c.self.view_is
    c.self.invariant.0 c.self.invariant.1 c.self.invariant.2 c.on_msg.ensures
    (λ log. msg_few c.self.inside.node.faults log c.in-Some.index c.args.message.now)
    (λ log e. frame_log c.self.inside.node.faults c.self.inside.node.me c.self.inside.depth
    (record { log = log; pending = c.self.inside.pending }) c.args.from c.args.message.now c.in-Some.index peer
    c.in-Some.ensures.1.0)
