use Rattle.applied_rounds.specs.States.{programs_of}
use Rattle.log_model.specs.Rows.{lead}
use Rattle.mid_node.proofs.Turned.{leading, turned, turned_range}
use Rattle.mid_node.proofs.turns.lead.Goals as goal

pub take_turn-requires-clause-range : goal.take_turn-requires-clause-range
take_turn-requires-clause-range g c =
    turned_range (programs_of (g.S.Service.table c.args.svc.now) (g.S.Service.beginning c.args.svc.now)) c.args.member c.args.up.now c.lead.new.self
    (lead c.args.up.now.log.faults c.args.up.now.log.me c.args.up.now.log.state) c.requires.member c.requires.range c.in_ok-turn.ensures.after
    (leading c.args.member c.args.up.now.log c.requires.member c.requires.range.log)

pub take_turn-requires-clause-turn : goal.take_turn-requires-clause-turn
take_turn-requires-clause-turn g c =
    turned c.args.member c.lead.new.self c.args.up.now.log (lead c.args.up.now.log.faults c.args.up.now.log.me c.args.up.now.log.state) c.in_ok-turn.turn
    c.in_ok-turn.ensures.after c.in_ok-turn.ensures.turn (leading c.args.member c.args.up.now.log c.requires.member c.requires.range.log)
