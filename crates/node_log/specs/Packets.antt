-- The packets that a node's call adds behind those of the calls before.
use Rattle.std.specs.Prelude.{◌≡◌, ℕ, ◌+◌, ◌*◌, List, ◌++◌, map, slice_get, Bool, true, false, Option, Some}
use Rattle.aeg_base.specs.declared.names.End.{End}
use Rattle.aeg_base.specs.declared.names.Tier.{Tier}
use Rattle.log_model.specs.declared.message.PaxMsg.{PaxMsg}
use Rattle.log_model.specs.declared.turn.Offering.{Offering}
use Rattle.log_model.specs.declared.turn.Offering.TheVariants.{NotLeader, NoPromises, InFlight, LogFull, Taken, Free}
use Rattle.log_values.specs.declared.any_value.AnyValue.{AnyValue}
use Rattle.frames.specs.declared.message.Msg.{Msg}
use Rattle.frames.specs.declared.message.Msg.TheVariants.{Log}
use Rattle.frames.specs.Frames.{frame}
use Rattle.paxos_log.specs.TierLog.{skips}
use Rattle.round_model.specs.Lists.{each}
use Rattle.tier_model.specs.Moves.{Packet, node, log_packets}

-- a packet as it is sent: with whom it goes to, and its bytes
abbrev pub sealed : Packet → End × List ℕ
sealed k = (k.to, frame k.from k.message)

abbrev pub all_sealed : List Packet → List (End × List ℕ)
all_sealed packets = map sealed packets

-- what stood there stands there still, whatever was added behind it
abbrev pub StillHas : {A : Type 0} → List A → List A → Type 0
StillHas {A} before after = (more : List A) × (after ≡ before ++ more)

-- one message to each of the 2u+1 nodes of a tier, or to all but one
abbrev pub to_tier : ℕ → End → Tier → Option ℕ → Msg → List Packet
to_tier u from t but message = each (2 * u + 1) (skips but) (λ y. record { from = from; to = node t y; message = message })

-- the last packets are those of these messages of the log
abbrev pub HasSent : Tier → ℕ → List (ℕ × PaxMsg AnyValue) → List (End × List ℕ) → Type 0
HasSent t x sends sent = (before : List (End × List ℕ)) × (sent ≡ before ++ all_sealed (log_packets t x sends))

-- the bytes are the frame of the message with this number
abbrev pub IsFrameAt : Tier → ℕ → List (ℕ × PaxMsg AnyValue) → ℕ → List ℕ → Type 0
IsFrameAt t x sends i bytes = (send : ℕ × PaxMsg AnyValue) → slice_get sends i ≡ Some send → bytes ≡ frame (node t x) (Log send.1)

-- a leader that may offer a value of its own, since none was reported
abbrev pub needs_own : Offering → Bool
needs_own NotLeader = false
needs_own (NoPromises have) = false
needs_own (InFlight p) = false
needs_own LogFull = false
needs_own Taken = false
needs_own (Free p) = true
