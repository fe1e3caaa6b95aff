-- The commands that a node may write down: what each makes of the node's state, and its event.
use Rattle.aeg_base.specs.declared.names.NodeId.{NodeId}
use Rattle.tier_model.specs.Moves.{Move}
use Rattle.tier_model.specs.Kinds.{Kind}
use Rattle.run_model.specs.declared.trace.Fared.{Fared}
use Rattle.run_model.specs.declared.trace.TraceEvent.{TraceEvent}
use Rattle.run_model.specs.declared.trace.TraceEvent.TheVariants as events
use Rattle.world.specs.declared.nodes.command.Command.{Command}
use Rattle.world.specs.declared.nodes.command.Command.TheVariants.{Lead, Offer}

-- at a node with these rows
abbrev pub row_of : {S : Type 0} → Command → Kind S → S → Move S
row_of Lead k = k.leads
row_of Offer k = k.offers

abbrev pub event_of : Command → NodeId → Fared → TraceEvent
event_of Lead n fared = events.Lead n fared
event_of Offer n fared = events.Offer n fared
