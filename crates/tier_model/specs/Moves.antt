-- What travels between the tiers, and what an event does at a node.
use Rattle.std.specs.Prelude.{ℕ, ◌+◌, ◌*◌, Bool, true, false, ◌&&◌, nat_lt, List, [], ◌∷◌, ◌++◌, map, Option, Some, None}
use Rattle.aeg_base.specs.declared.names.Tier.{Tier}
use Rattle.aeg_base.specs.declared.names.Tier.TheVariants as tiers
use Rattle.aeg_base.specs.declared.names.End.{End}
use Rattle.aeg_base.specs.declared.names.End.TheVariants.{Node, Client}
use Rattle.server_model.specs.Server.{same_tier}
use Rattle.log_model.specs.declared.message.PaxMsg.{PaxMsg}
use Rattle.log_model.specs.declared.message.PaxMsg.TheVariants.{Ask}
use Rattle.log_model.specs.declared.fact.Fact.{Fact as LogFact}
use Rattle.log_model.specs.declared.fact.Fact.TheVariants as logs
use Rattle.log_model.specs.declared.turn.LogIdle.{LogIdle}
use Rattle.log_model.specs.declared.turn.LogIdle.TheVariants as log_idle
use Rattle.log_model.specs.declared.turn.Offering.{Offering}
use Rattle.log_model.specs.declared.turn.Offering.TheVariants.{NotLeader, NoPromises, InFlight, LogFull, Taken, Free}
use Rattle.log_model.specs.Log.{is}
use Rattle.log_values.specs.declared.any_value.AnyValue.{AnyValue}
use Rattle.log_values.specs.declared.fact.Fact.{Fact}
use Rattle.log_values.specs.declared.fact.Fact.TheVariants.{Promised, Accepted, Learned, Held}
use Rattle.frames.specs.declared.message.Msg.{Msg}
use Rattle.frames.specs.declared.message.Msg.TheVariants.{Log}
use Rattle.tier_model.specs.declared.turn.Turn.{Turn}
use Rattle.tier_model.specs.declared.turn.Turn.TheVariants.{Did, Dropped, Idle as Idles}
use Rattle.tier_model.specs.declared.turn.Idle.{Idle}
use Rattle.tier_model.specs.declared.turn.Idle.TheVariants as why
use Rattle.frames.specs.declared.header.Refused.TheVariants.{Row}
use Rattle.round_model.specs.Lists.{each}
use Rattle.round_model.specs.Held.{HeldState, none_held, takes}

-- ENDS AND PACKETS

abbrev pub node : Tier → ℕ → End
node t x = Node (record { tier = t; index = x })

-- where a node is: a client is taken to be in the middle tier
abbrev pub tier_of : End → Tier
tier_of (Node n) = n.tier
tier_of (Client c) = tiers.Mid

abbrev pub is_client : End → Bool
is_client (Node n) = false
is_client (Client c) = true

-- one of the 2u+1 nodes of the tier
abbrev pub is_node_of : ℕ → Tier → End → Bool
is_node_of u t (Node n) = same_tier n.tier t && nat_lt n.index (2 * u + 1)
is_node_of u t (Client c) = false

-- a message on its way
pub record Packet : Type 0 where
  pub from : End
  pub to : End
  pub message : Msg

-- a message of the log to the node of a tier
abbrev pub log_packet : Tier → ℕ → ℕ × PaxMsg AnyValue → Packet
log_packet t x send = record { from = node t x; to = node t send.0; message = Log send.1 }

abbrev pub log_packets : Tier → ℕ → List (ℕ × PaxMsg AnyValue) → List Packet
log_packets t x sends = map (log_packet t x) sends

-- the first open position is asked for at the others
abbrev pub asks : ℕ → ℕ → ℕ → List (ℕ × PaxMsg AnyValue)
asks u x f = each (2 * u + 1) (is x) (λ y. (y, Ask f))

-- FACTS

abbrev pub as_fact : LogFact AnyValue → Fact
as_fact (logs.Promised b) = Promised b
as_fact (logs.Accepted p b v) = Accepted p b v
as_fact (logs.Learned p v) = Learned p v

-- those of the log
abbrev pub log_facts : List Fact → List (LogFact AnyValue)
log_facts [] = []
log_facts (Promised b ∷ fs) = logs.Promised b ∷ log_facts fs
log_facts (Accepted p b v ∷ fs) = logs.Accepted p b v ∷ log_facts fs
log_facts (Learned p v ∷ fs) = logs.Learned p v ∷ log_facts fs
log_facts (Held t n code ∷ fs) = log_facts fs

-- the answers that node x of a tier of 2u+1 holds by facts with the newest in front: of each call the oldest one counts
abbrev pub held_in : ℕ → ℕ → List Fact → HeldState
held_in u x [] = none_held u x
held_in u x (Promised b ∷ fs) = held_in u x fs
held_in u x (Accepted p b v ∷ fs) = held_in u x fs
held_in u x (Learned p v ∷ fs) = held_in u x fs
held_in u x (Held t n code ∷ fs) = takes (held_in u x fs) t n code

-- MOVES

-- What an event does at a node: its next state, the facts to write down before anything is sent, the packets, and the
-- node's answer.
pub record Move (S : Type 0) : Type 0 where
  pub state : S
  pub facts : List Fact
  pub sends : List Packet
  pub answer : Turn

-- nothing happens, for this reason
abbrev pub idles : {S : Type 0} → S → Idle → Move S
idles s cause = record { state = s; facts = []; sends = []; answer = Idles cause }

-- the frame is refused by a rule
abbrev pub drops : {S : Type 0} → S → ℕ → Move S
drops s row = record { state = s; facts = []; sends = []; answer = Dropped (Row row) }

-- only packets are sent
abbrev pub says : {S : Type 0} → S → List Packet → Move S
says s sends = record { state = s; facts = []; sends = sends; answer = Did }

-- only the state changes
abbrev pub becomes : {S : Type 0} → S → Move S
becomes s = record { state = s; facts = []; sends = []; answer = Did }

-- why the log did nothing
abbrev pub log_cause : LogIdle → Idle
log_cause log_idle.BallotSpent = why.BallotSpent
log_cause (log_idle.Stale b) = why.Stale b
log_cause (log_idle.Behind p) = why.Behind p
log_cause log_idle.Nothing = why.Nothing

abbrev pub log_answer : Option LogIdle → Turn
log_answer None = Did
log_answer (Some idle) = Idles (log_cause idle)

-- what stands in the way of an offer besides the value itself
abbrev pub offer_cause : Offering → Option Idle
offer_cause NotLeader = Some why.NotLeader
offer_cause (NoPromises have) = Some (why.NoPromises have)
offer_cause (InFlight p) = Some (why.InFlight p)
offer_cause LogFull = Some why.LogFull
offer_cause Taken = None
offer_cause (Free p) = None
