use Rattle.aeg_base.specs.declared.names.Tier.TheVariants as tiers
use Rattle.applied_rounds.specs.States.{programs_of}
use Rattle.log_model.specs.Rows.{on_msg}
use Rattle.mid_node.proofs.Turned.{log_fits, received, turned, turned_range}
use Rattle.mid_node.proofs.frames_in.on_log.Goals as goal

pub take_turn-requires-clause-range : goal.take_turn-requires-clause-range
take_turn-requires-clause-range g c =
    turned_range (programs_of (g.S.Service.table c.args.svc.now) (g.S.Service.beginning c.args.svc.now)) c.args.member c.args.up.now c.on_msg.new.self
    (on_msg c.args.up.now.log.faults c.args.up.now.log.state c.in-Some.index c.args.message.now) c.requires.member c.requires.range
    c.in_ok-turn.ensures.after
    (received c.args.member c.args.up.now.log c.in-Some.index c.args.message.now c.requires.member c.requires.range.log c.in-Some.ensures.1.1
    (log_fits c.args.member.faults tiers.Mid c.args.from c.args.message.now c.in-Some.ensures.0 c.requires.fits))

pub take_turn-requires-clause-turn : goal.take_turn-requires-clause-turn
take_turn-requires-clause-turn g c =
    turned c.args.member c.on_msg.new.self c.args.up.now.log
    (on_msg c.args.up.now.log.faults c.args.up.now.log.state c.in-Some.index c.args.message.now) c.in_ok-turn.turn c.in_ok-turn.ensures.after
    c.in_ok-turn.ensures.turn
    (received c.args.member c.args.up.now.log c.in-Some.index c.args.message.now c.requires.member c.requires.range.log c.in-Some.ensures.1.1
    (log_fits c.args.member.faults tiers.Mid c.args.from c.args.message.now c.in-Some.ensures.0 c.requires.fits))
