use Rattle.std.specs.Prelude.{option_copied}
use Rattle.log_model.specs.Rows.{offer}
use Rattle.backend_node.proofs.Decided.{turned, turned_range}
use Rattle.backend_node.proofs.Turned.{offering}
use Rattle.backend_node.proofs.offering.offer_value.Goals as goal

pub take_turn-requires-clause-range : goal.take_turn-requires-clause-range
take_turn-requires-clause-range g c =
    turned_range c.args.member c.args.up.now c.offer.new.self
    (offer c.args.up.now.log.faults c.args.up.now.log.me c.args.up.now.log.state (option_copied c.args.own))
    c.requires.range c.in_ok-turn.ensures.after
    (offering c.args.member c.args.up.now (option_copied c.args.own) c.requires.member c.requires.range c.requires.own)

pub take_turn-requires-clause-turn : goal.take_turn-requires-clause-turn
take_turn-requires-clause-turn g c =
    turned c.args.member c.offer.new.self c.args.up.now.log
    (offer c.args.up.now.log.faults c.args.up.now.log.me c.args.up.now.log.state (option_copied c.args.own))
    c.in_ok-turn.turn c.in_ok-turn.ensures.after c.in_ok-turn.ensures.turn
    (offering c.args.member c.args.up.now (option_copied c.args.own) c.requires.member c.requires.range c.requires.own)
