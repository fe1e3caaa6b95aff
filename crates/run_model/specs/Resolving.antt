-- What a script comes to: the events that its lines make, one after another.
use Rattle.std.specs.Prelude.{◌≡◌, ℕ, zero, suc, ◌≤◌, ◌+◌, ◌*◌, Bool, true, false, List, [], ◌∷◌, ◌++◌, drop, length}
use Rattle.std.specs.Prelude.{map, replicate, Option, Some, None, if◌then◌else◌}
use Rattle.std.specs.List.{flat_map}
use Rattle.aeg_base.specs.declared.names.Tier.{Tier}
use Rattle.aeg_base.specs.declared.names.Tier.TheVariants.{Mid, Inv, Pay}
use Rattle.aeg_base.specs.declared.names.NodeId.{NodeId}
use Rattle.aeg_base.specs.declared.names.End.{End}
use Rattle.aeg_base.specs.declared.names.End.TheVariants.{Node, Client}
use Rattle.log_model.specs.Log.{nobody}
use Rattle.log_model.specs.Nodes.{Mode}
use Rattle.log_model.specs.Nodes.Mode.{Up, Down, Gone}
use Rattle.log_values.specs.declared.fact.Fact.{Fact}
use Rattle.tier_model.specs.declared.turn.Turn.{Turn}
use Rattle.tier_model.specs.declared.turn.Turn.TheVariants.{Did, Ran, Dropped, Idle as Idles}
use Rattle.round_model.specs.Lists.{each}
use Rattle.tier_model.specs.Moves.{Packet, Move}
use Rattle.tier_model.specs.Mid as mid
use Rattle.tier_model.specs.MidRows as mids
use Rattle.run_model.specs.declared.line.Event.{Event}
use Rattle.run_model.specs.declared.line.Event.TheVariants as lines
use Rattle.run_model.specs.declared.line.CutLine.{CutLine}
use Rattle.run_model.specs.declared.line.CutLine.TheVariants as cuts
use Rattle.run_model.specs.declared.trace.Fared.{Fared}
use Rattle.run_model.specs.declared.trace.Fared.TheVariants.{Fine, Cut, Fault}
use Rattle.run_model.specs.declared.trace.Found.TheVariants.{Reads, Fault as Fails}
use Rattle.run_model.specs.declared.trace.TraceEvent.{TraceEvent}
use Rattle.run_model.specs.declared.trace.TraceEvent.TheVariants.{Submit, Deliver, Short, Lead, Offer, Work, Retry, Crash, Restart, Wipe}
use Rattle.run_model.specs.Script.{Numbered, Script}
use Rattle.run_model.specs.World.{Config, World, kind_at, start}
use Rattle.run_model.specs.Runs.{world}
use Rattle.run_model.specs.Text.{after}

-- WHERE A SCRIPT STANDS

-- a turn of `calm` first delivers what is on its way, and then goes through the commands; whether one of them did something
pub data Phase : Type 0 where
  Flows : Phase
  Asks : (next : ℕ) → (did : Bool) → Phase

-- the packet that `flow` delivers next, and where in a turn of `calm` it stands
pub record Place : Type 0 where
  pub cursor : ℕ
  pub phase : Phase

abbrev pub first_place : Place
first_place = record { cursor = 0; phase = Flows }

-- FLOW

abbrev pub is_up : {S : Type 0} → Mode S → Bool
is_up (Up s) = true
is_up Down = false
is_up Gone = false

abbrev pub is_node_up : {B : Type 0} → World B → Tier → ℕ → Bool
is_node_up w t x = is_up (w.nodes t x).mode

-- a client is always there
abbrev pub is_there : {B : Type 0} → World B → End → Bool
is_there w (Node n) = is_node_up w n.tier n.index
is_there w (Client y) = true

-- the number of the first of these packets, counted from k, that goes to somebody who is there
abbrev pub first_to : {B : Type 0} → World B → ℕ → List Packet → Option ℕ
first_to w k [] = None
first_to w k (packet ∷ packets) = if is_there w packet.to then Some k else first_to w (k + 1) packets

-- the next packet of `flow`
abbrev pub next_packet : {B : Type 0} → World B → ℕ → Option ℕ
next_packet w cursor = first_to w cursor (drop cursor w.soup)

-- behind all packets
abbrev pub at_end : {B : Type 0} → World B → Place
at_end w = record { cursor = length w.soup; phase = Flows }

-- TURNS

-- What a line does now: the event that it makes, or none where nothing is left to do, and where the script stands then.
pub record Turned : Type 0 where
  pub event : Option TraceEvent
  pub place : Place

abbrev pub makes : TraceEvent → Place → Turned
makes event place = record { event = Some event; place = place }

abbrev pub rests : Place → Turned
rests place = record { event = None; place = place }

-- the line is one event, and a turn of `calm` is given up
abbrev pub one : Place → TraceEvent → Turned
one p event = makes event (record { cursor = p.cursor; phase = Flows })

abbrev pub flow_by : {B : Type 0} → World B → Option ℕ → Turned
flow_by w None = rests (at_end w)
flow_by w (Some k) = makes (Deliver k Fine) (record { cursor = k + 1; phase = Flows })

abbrev pub flow_turn : {B : Type 0} → World B → Place → Turned
flow_turn w p = flow_by w (next_packet w p.cursor)

-- THE COMMANDS OF CALM

abbrev pub nodes_of : ℕ → Tier → List NodeId
nodes_of u t = each (2 * u + 1) nobody (λ x. record { tier = t; index = x })

abbrev pub all_nodes : ℕ → List NodeId
all_nodes u = nodes_of u Mid ++ (nodes_of u Inv ++ nodes_of u Pay)

-- an offer at each node, and then a work at each middle node
abbrev pub commands : ℕ → List TraceEvent
commands u = map (λ n. Offer n Fine) (all_nodes u) ++ map (λ n. Work n []) (nodes_of u Mid)

abbrev pub is_idle : Turn → Bool
is_idle (Idles cause) = true
is_idle Did = false
is_idle (Ran note) = false
is_idle (Dropped refusal) = false

abbrev pub acts : {S : Type 0} → (S → Move S) → Mode S → Bool
acts move (Up s) = if is_idle (move s).answer then false else true
acts move Down = false
acts move Gone = false

abbrev pub offer_acts : {B : Type 0} → Config B → World B → Tier → ℕ → Bool
offer_acts c w t x = acts (kind_at c t x).offers (w.nodes t x).mode

-- the command is one at a node that is up, and isn't idle
abbrev pub command_acts : {B : Type 0} → Config B → World B → TraceEvent → Bool
command_acts c w (Offer n fared) = offer_acts c w n.tier n.index
command_acts c w (Work n schedule) = acts (λ s. mids.work c.u c.service.programs n.index s schedule) (w.nodes Mid n.index).mode
command_acts c w event = false

-- the steps that a work by this schedule prints, none where it runs no job
abbrev pub steps_of : Option mids.Running → List ℕ
steps_of None = []
steps_of (Some r) = r.note.steps

abbrev pub steps_by : {B : Type 0} → Config B → Mode mid.Mid → ℕ → List ℕ → List ℕ
steps_by c (Up s) x schedule = steps_of (mids.work_run c.u c.service.programs x s schedule)
steps_by c Down x schedule = []
steps_by c Gone x schedule = []

-- a work is noted with the steps that it makes
abbrev pub works : {B : Type 0} → Config B → World B → NodeId → List ℕ → TraceEvent
works c w n schedule = Work n (steps_by c (w.nodes Mid n.index).mode n.index schedule)

abbrev pub as_noted : {B : Type 0} → Config B → World B → TraceEvent → TraceEvent
as_noted c w (Work n schedule) = works c w n schedule
as_noted c w event = event

-- the first of these commands that acts, and the number of the one behind it
abbrev pub first_acting : {B : Type 0} → Config B → World B → ℕ → List TraceEvent → Option (TraceEvent × ℕ)
first_acting c w k [] = None
first_acting c w k (event ∷ events) = if command_acts c w event then Some (as_noted c w event, k + 1) else first_acting c w (k + 1) events

abbrev pub commands_from : {B : Type 0} → Config B → World B → ℕ → Option (TraceEvent × ℕ)
commands_from c w k = first_acting c w k (drop k (commands c.u))

-- the command, or what comes where none is left
abbrev pub asks_by : Place → Turned → Option (TraceEvent × ℕ) → Turned
asks_by p otherwise None = otherwise
asks_by p otherwise (Some found) = makes found.0 (record { cursor = p.cursor; phase = Asks found.1 true })

-- once all packets are delivered the commands come, from the first on
abbrev pub calm_from : {B : Type 0} → Config B → World B → Place → Option ℕ → Turned
calm_from c w p (Some k) = makes (Deliver k Fine) (record { cursor = k + 1; phase = Flows })
calm_from c w p None = asks_by (at_end w) (rests (at_end w)) (commands_from c w 0)

abbrev pub calm_flows : {B : Type 0} → Config B → World B → Place → Turned
calm_flows c w p = calm_from c w p (next_packet w p.cursor)

-- a turn in which a command did something is followed by another
abbrev pub calm_by : {B : Type 0} → Config B → World B → Place → Phase → Turned
calm_by c w p Flows = calm_flows c w p
calm_by c w p (Asks k did) = asks_by p (if did then calm_flows c w p else rests (at_end w)) (commands_from c w k)

-- LINES

abbrev pub item_steps : ℕ × ℕ → List ℕ
item_steps item = replicate item.1 item.0

-- no schedule is the empty one
abbrev pub schedule_of : Option (List (ℕ × ℕ)) → List ℕ
schedule_of None = []
schedule_of (Some items) = flat_map item_steps items

abbrev pub cut_event : Fared → CutLine → TraceEvent
cut_event fared (cuts.Deliver k) = Deliver k fared
cut_event fared (cuts.Lead n) = Lead n fared
cut_event fared (cuts.Offer n) = Offer n fared

abbrev pub turn : {B : Type 0} → Config B → World B → Place → Event → Turned
turn c w p (lines.Submit y body) = one p (Submit y body)
turn c w p (lines.Deliver k) = one p (Deliver k Fine)
turn c w p (lines.Short k bytes) = one p (Short k bytes Fine)
turn c w p (lines.Cut nth keep line) = one p (cut_event (Cut nth keep) line)
turn c w p (lines.Lead n) = one p (Lead n Fine)
turn c w p (lines.Offer n) = one p (Offer n Fine)
turn c w p (lines.Retry end) = one p (Retry end)
turn c w p (lines.Work n by) = one p (works c w n (schedule_of by))
turn c w p (lines.Crash n) = one p (Crash n)
turn c w p (lines.Restart n) = one p (Restart n (Reads 0))
turn c w p (lines.Wipe n) = one p (Wipe n)
turn c w p lines.Flow = flow_turn w p
turn c w p lines.Calm = calm_by c w p p.phase
turn c w p lines.Lose = rests (at_end w)

-- flow and calm go on until nothing is left to do
abbrev pub goes_on : Event → Bool
goes_on lines.Flow = true
goes_on lines.Calm = true
goes_on event = false

-- RUNS

-- a run of a script: the world, where the script stands, and the lines that are left
pub record Standing (B : Type 0) : Type 0 where
  pub world : World B
  pub place : Place
  pub left : List Numbered

-- the next event, and where the run stands before it
pub record Due : Type 0 where
  pub event : TraceEvent
  pub place : Place
  pub left : List Numbered

abbrev pub left_of : Numbered → List Numbered → List Numbered
left_of line rest = if goes_on line.1 then line ∷ rest else rest

abbrev pub due_by : Option TraceEvent → Place → Numbered → List Numbered → Option Due → Option Due
due_by None place line rest otherwise = otherwise
due_by (Some event) place line rest otherwise = Some (record { event = event; place = place; left = left_of line rest })

-- lines with nothing left to do are passed over
abbrev pub due : {B : Type 0} → Config B → World B → Place → List Numbered → Option Due
due c w p [] = None
due c w p (line ∷ rest) = due_by (turn c w p line.1).event (turn c w p line.1).place line rest (due c w (turn c w p line.1).place rest)

abbrev pub next : {B : Type 0} → Config B → Standing B → Option Due
next c s = due c s.world s.place s.left

-- HOW THE DISKS FARE

-- it fared as was due, or its disk met a fault
abbrev pub Fares : (Fared → TraceEvent) → TraceEvent → Fared → Type 0
Fares event due Fine = due ≡ event Fine
Fares event due (Cut nth keep) = due ≡ event (Cut nth keep)
Fares event due Fault = (fared : Fared) × (due ≡ event fared)

-- what was due became this event: only its disk may have met a fault, and a restart found what it found
abbrev pub Becomes : TraceEvent → TraceEvent → Type 0
Becomes due (Deliver k fared) = Fares (Deliver k) due fared
Becomes due (Short k bytes fared) = Fares (Short k bytes) due fared
Becomes due (Lead n fared) = Fares (Lead n) due fared
Becomes due (Offer n fared) = Fares (Offer n) due fared
Becomes due (Restart n found) = due ≡ Restart n (Reads 0)
Becomes due (Submit y text) = due ≡ Submit y text
Becomes due (Work n schedule) = due ≡ Work n schedule
Becomes due (Retry end) = due ≡ Retry end
Becomes due (Crash n) = due ≡ Crash n
Becomes due (Wipe n) = due ≡ Wipe n

-- each in its turn
abbrev pub AllBecome : List TraceEvent → List TraceEvent → Type 0
AllBecome [] [] = Unit {0}
AllBecome [] (e ∷ es) = ⊥
AllBecome (due ∷ dues) [] = ⊥
AllBecome (due ∷ dues) (e ∷ es) = Becomes due e × AllBecome dues es

-- no fault of its disk
abbrev pub is_fine : Fared → Bool
is_fine Fine = true
is_fine (Cut nth keep) = true
is_fine Fault = false

-- no disk met a fault, and a restart found the one list that its disk stood for
abbrev pub is_sure : TraceEvent → Bool
is_sure (Deliver k fared) = is_fine fared
is_sure (Short k bytes fared) = is_fine fared
is_sure (Lead n fared) = is_fine fared
is_sure (Offer n fared) = is_fine fared
is_sure (Restart n (Reads zero)) = true
is_sure (Restart n (Reads (suc k))) = false
is_sure (Restart n Fails) = false
is_sure (Submit y text) = true
is_sure (Work n schedule) = true
is_sure (Retry end) = true
is_sure (Crash n) = true
is_sure (Wipe n) = true

-- in none of these
abbrev pub AllSure : List TraceEvent → Type 0
AllSure [] = Unit {0}
AllSure (e ∷ es) = (is_sure e ≡ true) × AllSure es

abbrev pub others_at : {B : Type 0} → World B → Tier → ℕ → List (List (List Fact))
others_at w t x = (w.nodes t x).others

-- what a restart read is one of the lists that the disk stands for
abbrev pub Finds : {B : Type 0} → World B → TraceEvent → Type 0
Finds w (Restart n (Reads k)) = k ≤ length (others_at w n.tier n.index)
Finds w (Restart n Fails) = Unit {0}
Finds w (Deliver k fared) = Unit {0}
Finds w (Short k bytes fared) = Unit {0}
Finds w (Lead n fared) = Unit {0}
Finds w (Offer n fared) = Unit {0}
Finds w (Submit y text) = Unit {0}
Finds w (Work n schedule) = Unit {0}
Finds w (Retry end) = Unit {0}
Finds w (Crash n) = Unit {0}
Finds w (Wipe n) = Unit {0}

-- each of these found what there was
abbrev pub AllFind : {B : Type 0} → Config B → World B → List TraceEvent → Type 0
AllFind c w [] = Unit {0}
AllFind c w (e ∷ es) = Finds w e × AllFind c (after c w e) es

-- RUNS GO ON

-- the run once its next event became this one
abbrev pub stands_after : {B : Type 0} → Config B → World B → Due → TraceEvent → Standing B
stands_after c w d event = record { world = after c w event; place = d.place; left = d.left }

-- the events came of the next ones, and lead from one standing to the other
abbrev pub Goes : {B : Type 0} → Config B → Standing B → List TraceEvent → Standing B → Type 0
Goes c s [] t = s ≡ t
Goes c s (e ∷ es) t = (d : Due) × (next c s ≡ Some d) × Becomes d.event e × Finds s.world e × Goes c (stands_after c s.world d e) es t

-- every node restarts on its blank disk
abbrev pub starts : ℕ → List TraceEvent
starts u = map (λ n. Restart n (Reads 0)) (all_nodes u)

-- the script from the world after its first restarts
abbrev pub first_standing : {B : Type 0} → World B → Script → Standing B
first_standing w script = record { world = w; place = first_place; left = script.events }

-- the run has come so far
abbrev pub Reaches : {B : Type 0} → Config B → Script → List TraceEvent → Standing B → Type 0
Reaches c script es t = (first : List TraceEvent) × (front : List TraceEvent) × (es ≡ first ++ front)
    × AllBecome (starts c.u) first × AllFind c start first × Goes c (first_standing (world c first) script) front t

-- the events are all that the script comes to
abbrev pub Resolves : {B : Type 0} → Config B → Script → List TraceEvent → Type 0
Resolves c script es = (t : Standing _) × Reaches c script es t × (next c t ≡ None)
