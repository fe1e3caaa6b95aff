use Rattle.std.specs.Prelude.{option_copied}
use Rattle.applied_rounds.specs.States.{programs_of}
use Rattle.log_model.specs.Rows.{offer}
use Rattle.mid_node.proofs.Turned.{offering, turned, turned_range}
use Rattle.mid_node.proofs.offering.offer_value.Goals as goal

pub take_turn-requires-clause-range : goal.take_turn-requires-clause-range
take_turn-requires-clause-range g c =
    let p = programs_of (g.S.Service.table c.args.svc.now) (g.S.Service.beginning c.args.svc.now) in
    turned_range p c.args.member c.args.up.now c.offer.new.self
    (offer c.args.up.now.log.faults c.args.up.now.log.me c.args.up.now.log.state (option_copied c.args.own)) c.requires.member
    c.requires.range c.in_ok-turn.ensures.after
    (offering p c.args.member c.args.up.now (option_copied c.args.own) c.requires.member c.requires.range c.requires.own)

pub take_turn-requires-clause-turn : goal.take_turn-requires-clause-turn
take_turn-requires-clause-turn g c =
    turned c.args.member c.offer.new.self c.args.up.now.log
    (offer c.args.up.now.log.faults c.args.up.now.log.me c.args.up.now.log.state (option_copied c.args.own))
    c.in_ok-turn.turn c.in_ok-turn.ensures.after c.in_ok-turn.ensures.turn
    (offering (programs_of (g.S.Service.table c.args.svc.now) (g.S.Service.beginning c.args.svc.now)) c.args.member c.args.up.now
    (option_copied c.args.own) c.requires.member c.requires.range c.requires.own)
