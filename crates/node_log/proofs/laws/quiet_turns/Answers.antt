use Rattle.node_log.proofs.Quiet.{message_idle, lead_idle, offer_none}
use Rattle.node_log.proofs.laws.quiet_turns.Goals as goal

pub returns-clause-messages : goal.returns-clause-messages
returns-clause-messages c = message_idle

pub returns-clause-leading : goal.returns-clause-leading
returns-clause-leading c = lead_idle

pub returns-clause-offers : goal.returns-clause-offers
returns-clause-offers c = offer_none
