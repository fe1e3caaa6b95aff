use Rattle.node_log.proofs.Turns.{received, placed, message_turn, lead_turn, offer_turn, turn_sends, turn_recorded, own_after}
use Rattle.node_log.proofs.laws.log_turns.Goals as goal

pub returns-clause-received : goal.returns-clause-received
returns-clause-received c = received

pub returns-clause-placed : goal.returns-clause-placed
returns-clause-placed c = placed

pub returns-clause-messages : goal.returns-clause-messages
returns-clause-messages c = message_turn

pub returns-clause-leading : goal.returns-clause-leading
returns-clause-leading c = lead_turn

pub returns-clause-offers : goal.returns-clause-offers
returns-clause-offers c = offer_turn

pub returns-clause-sends : goal.returns-clause-sends
returns-clause-sends c = turn_sends

pub returns-clause-recorded : goal.returns-clause-recorded
returns-clause-recorded c = turn_recorded

pub returns-clause-own : goal.returns-clause-own
returns-clause-own c = own_after
