-- What holds of the move that a row makes of a state in range.
use Rattle.std.specs.Prelude.{◌≡◌, ℕ, ◌+◌, ◌*◌, ◌<◌, ◌≤◌, Bool, true, false, length}
use Rattle.std.specs.List.{AllByRecursion}
use Rattle.aeg_base.specs.declared.names.End.{End}
use Rattle.aeg_base.specs.declared.names.End.TheVariants.{Node, Client}
use Rattle.aeg_base.specs.declared.names.Tier.{Tier}
use Rattle.log_model.specs.Log.{LogState, open_at}
use Rattle.log_values.specs.declared.any_value.AnyValue.{AnyValue}
use Rattle.frames.specs.declared.message.Msg.{Msg}
use Rattle.frames.specs.declared.message.Msg.TheVariants as msgs
use Rattle.tier_model.specs.declared.turn.Turn.{Turn}
use Rattle.tier_model.specs.declared.turn.Turn.TheVariants.{Did, Ran, Dropped, Idle}
use Rattle.frames.specs.Frames.{FitsFrame}
use Rattle.round_model.specs.Service.{Service}
use Rattle.tier_model.specs.Moves.{node, Packet, Move}
use Rattle.tier_model.specs.Kinds.{State, kind}
use Rattle.fact_journal.specs.Fitting.{FactsFit, open_after_all}

-- WHO TAKES A PACKET

abbrev pub is_dropped : Turn → Bool
is_dropped Did = false
is_dropped (Ran note) = false
is_dropped (Dropped refused) = true
is_dropped (Idle cause) = false

abbrev pub IsReplyTo : ℕ → Msg → Type 0
IsReplyTo client (msgs.Reply who text) = who.client ≡ client
IsReplyTo client message = ⊥

-- A node of the tiers of 2u+1 takes the message from there whatever its state: its row doesn't drop it. A client takes the
-- replies to it.
abbrev pub Takes : {B : Type 0} → Service B → ℕ → ℕ → End → End → Msg → Type 0
Takes {B} s u depth (Node n) from message =
    (n.index < 2 * u + 1) × ((σ : State B n.tier) → is_dropped ((kind u s depth n.tier n.index).on_frame from message σ).answer ≡ false)
Takes s u depth (Client client) from message = IsReplyTo client message

abbrev pub IsTaken : {B : Type 0} → Service B → ℕ → ℕ → Packet → Type 0
IsTaken s u depth k = Takes s u depth k.to k.from k.message

-- it is from this end, and has a frame
pub record IsSealable (from : End) (k : Packet) : Type 0 where
  pub own : k.from ≡ from
  pub fits : FitsFrame from k.message

-- A retry of one of five middle nodes sends most: Asks to the 4 others, 16 calls to 5 nodes each, 32 Haves to 4 each, and 2
-- floors to 5 each.
abbrev pub most_sent : ℕ
most_sent = 222

-- MOVES

-- What the move of a tier's node leaves is in range. Each packet is one that its end takes, and has a frame, and they are
-- few. At most one fact is written down; it fits the node's journal, and opens the log where the move leaves it open.
pub record IsMoveTo {S : Type 0} (IsIn : S → Type 0) (log_in : S → LogState AnyValue) (GoesWell : Packet → Type 0) (t : Tier) (x : ℕ) (σ : S)
    (move : Move S) : Type 0 where
  pub state : IsIn move.state
  pub taken : AllByRecursion GoesWell move.sends
  pub sealable : AllByRecursion (IsSealable (node t x)) move.sends
  pub few : length move.sends ≤ most_sent
  pub short : length move.facts ≤ 1
  pub facts : FactsFit t (open_at (log_in σ)) move.facts
  pub opens : open_at (log_in move.state) ≡ open_after_all (open_at (log_in σ)) move.facts
