-- The chosen logs, and the world after a list of events.
use Rattle.std.specs.Prelude.{Bool, false, List, [], ◌∷◌, ◌++◌, length, Option, Some, None, if◌then◌else◌}
use Rattle.aeg_base.specs.declared.names.Tier.{Tier}
use Rattle.aeg_base.specs.declared.names.Tier.TheVariants.{Mid, Inv, Pay}
use Rattle.aeg_base.specs.declared.names.End.{End}
use Rattle.aeg_base.specs.declared.names.End.TheVariants.{Node, Client}
use Rattle.server_model.specs.Server.{same_tier, found_in}
use Rattle.server_model.specs.History.{History, served}
use Rattle.log_model.specs.World.{Packet as LogPacket}
use Rattle.log_model.specs.Chosen.{chosen_among}
use Rattle.log_values.specs.declared.any_value.AnyValue.{AnyValue}
use Rattle.frames.specs.declared.message.Msg.{Msg}
use Rattle.frames.specs.declared.message.Msg.TheVariants as msgs
use Rattle.round_model.specs.Service.{meaning}
use Rattle.round_model.specs.Tables.{Codes}
use Rattle.tier_model.specs.Moves.{Packet}
use Rattle.frames.specs.Headers.{end_index}
use Rattle.run_model.specs.World.{Config, World, put_tier, start, happens}
use Rattle.run_model.specs.Histories.{value_steps, back_steps}
use Rattle.run_model.specs.declared.trace.TraceEvent.{TraceEvent}

-- THE PACKETS OF ONE TIER'S LOG

abbrev pub is_in : Tier → End → Bool
is_in t (Node n) = same_tier n.tier t
is_in t (Client y) = false

abbrev pub log_part : Tier → End → End → Msg → List (LogPacket AnyValue)
log_part t from to (msgs.Log p) = if is_in t from then record { from = end_index from; to = end_index to; msg = p } ∷ [] else []
log_part t from to (msgs.Request seq text) = []
log_part t from to (msgs.Reply who text) = []
log_part t from to (msgs.Token r token order) = []
log_part t from to (msgs.Call n text) = []
log_part t from to (msgs.Answer n code) = []
log_part t from to (msgs.Have v n code) = []
log_part t from to (msgs.Settle g) = []

-- what the nodes of the tier sent of its log
abbrev pub log_soup : Tier → List Packet → List (LogPacket AnyValue)
log_soup t [] = []
log_soup t (k ∷ ks) = log_part t k.from k.to k.message ++ log_soup t ks

-- CHOSEN LOGS AND HISTORY GROW

-- the codes of the history's served calls
abbrev pub served_of : {B : Type 0} → Config B → World B → Codes
served_of c w t n = found_in (served (meaning c.service) w.hist) t n

-- what a value at the end of the tier's log adds to the history
abbrev pub steps_at : {B : Type 0} → Config B → World B → Tier → AnyValue → History
steps_at c w Mid v = value_steps c.service.programs c.depth (w.logs Mid) (served_of c w) v
steps_at c w Inv v = back_steps Inv (w.logs Inv) v
steps_at c w Pay v = back_steps Pay (w.logs Pay) v

abbrev pub grown : {B : Type 0} → Config B → World B → Tier → Option AnyValue → World B
grown c w t None = w
grown c w t (Some v) = record w { logs = put_tier w.logs t (w.logs t ++ v ∷ []); hist = w.hist ++ steps_at c w t v }

-- the value that is chosen at the end of the tier's log
abbrev pub chosen_next : {B : Type 0} → Config B → World B → Tier → Option AnyValue
chosen_next c w t = chosen_among c.u (log_soup t w.soup) (length (w.logs t)) (log_soup t w.soup)

-- the log is lengthened by it
abbrev pub grows_at : {B : Type 0} → Config B → Tier → World B → World B
grows_at c t w = grown c w t (chosen_next c w t)

abbrev pub grows : {B : Type 0} → Config B → World B → World B
grows c w = grows_at c Pay (grows_at c Inv (grows_at c Mid w))

-- RUNS

abbrev pub run : {B : Type 0} → Config B → List TraceEvent → World B → World B
run c [] w = w
run c (e ∷ es) w = run c es (grows c (happens c w e))

-- the world after these events, from nodes that are all down on blank disks
abbrev pub world : {B : Type 0} → Config B → List TraceEvent → World B
world c es = run c es start
