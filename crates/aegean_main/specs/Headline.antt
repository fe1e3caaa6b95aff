-- What every run of the booking service in three tiers has, whatever its events are.
use Rattle.std.specs.Prelude.{◌≡◌, ℕ, ◌+◌, ◌*◌, ◌<◌, List, Some, slice_get}
use Rattle.aeg_base.specs.declared.names.Tier.{Tier}
use Rattle.aeg_base.specs.declared.names.End.TheVariants.{Client}
use Rattle.aeg_base.specs.declared.names.ReqId.{ReqId}
use Rattle.server_model.specs.History.{Legal}
use Rattle.server_model.specs.Single.{booking_meaning}
use Rattle.server_model.specs.declared.history.Hist.TheVariants.{Start}
use Rattle.log_model.specs.Chosen.{Meets}
use Rattle.log_values.specs.declared.any_value.AnyValue.{AnyValue}
use Rattle.log_values.specs.declared.entry.Entry.{Entry}
use Rattle.frames.specs.declared.message.Msg.TheVariants as messages
use Rattle.round_model.specs.Tables.{who_of}
use Rattle.tier_model.specs.Moves.{Packet, tier_of}
use Rattle.run_model.specs.BookingRuns.{config, BookingWorld}
use Rattle.run_model.specs.declared.trace.TraceEvent.{TraceEvent}
use Rattle.run_model.specs.Runs.{world, log_soup}
use Rattle.tier_laws.specs.Said.{HasReply, HasCall, HasAnswer, WasSubmitted, chosen_log, HasLearned}

-- the world of tiers of 2u+1 nodes after these events
abbrev pub world_after : ℕ → ℕ → List TraceEvent → BookingWorld
world_after u depth es = world (config u depth) es

-- No two values at one position: what meets the condition of being chosen stands in the tier's chosen log, and so does what
-- a node has learned. The history is legal on one server. Each reply, call and answer that was sent is one of this history,
-- a reply goes to its own client, and so is each reply that a client took. What starts in it was submitted with that text.
pub record Keeps (u depth : ℕ) (es : List TraceEvent) : Type 0 where
  pub chosen : (t : Tier) (p : ℕ) (v : AnyValue) → Meets u (log_soup t (world_after u depth es).soup) p v
      → slice_get (chosen_log (world_after u depth es) t) p ≡ Some v
  pub learned : (t : Tier) (x p : ℕ) (v : AnyValue) → x < 2 * u + 1
      → HasLearned (config u depth) (world_after u depth es) t x p v → slice_get (chosen_log (world_after u depth es) t) p ≡ Some v
  pub legal : Legal booking_meaning (world_after u depth es).hist
  pub replies : (i : ℕ) (k : Packet) (who : ReqId) (text : List ℕ) → slice_get (world_after u depth es).soup i ≡ Some k
      → k.message ≡ messages.Reply who text → (k.to ≡ Client who.client)
      × HasReply (config u depth) (world_after u depth es) who text
  pub calls : (i n : ℕ) (k : Packet) (text : List ℕ) → slice_get (world_after u depth es).soup i ≡ Some k
      → k.message ≡ messages.Call n text → HasCall (config u depth) (world_after u depth es) (tier_of k.to) n text
  pub answers : (i n code : ℕ) (k : Packet) → slice_get (world_after u depth es).soup i ≡ Some k
      → k.message ≡ messages.Answer n code → HasAnswer (config u depth) (world_after u depth es) (tier_of k.from) n code
  pub haves : (i n code : ℕ) (t : Tier) (k : Packet) → slice_get (world_after u depth es).soup i ≡ Some k
      → k.message ≡ messages.Have t n code → HasAnswer (config u depth) (world_after u depth es) t n code
  pub starts : (i n : ℕ) (who : ReqId) (body : List ℕ) → slice_get (world_after u depth es).hist i
      ≡ Some (Start who n, body) → WasSubmitted (world_after u depth es) who body
  pub told : (i : ℕ) (e : Entry) → slice_get (world_after u depth es).told i ≡ Some e → HasReply (config u depth) (world_after u depth es) (who_of e) e.body
