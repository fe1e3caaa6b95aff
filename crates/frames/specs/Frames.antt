-- Frames: their one spelling, what has one, and what bytes are refused with.
use Rattle.std.specs.Prelude.{◌≡◌, ℕ, ◌≤◌, List, [], ◌∷◌, ◌++◌, length, Option, Some, None, Result, Ok, Err, true, nat_lt, if◌then◌else◌}
use Rattle.std.specs.Int.{w16, to_be_bytes}
use Rattle.aeg_base.specs.declared.names.End.{End}
use Rattle.aeg_base.specs.declared.names.End.TheVariants.{Node, Client}
use Rattle.aeg_base.specs.declared.names.Tier.{Tier}
use Rattle.aeg_base.specs.declared.names.Tier.TheVariants.{Mid}
use Rattle.aeg_wire.specs.Fields.{Read}
use Rattle.log_values.specs.declared.format.TheConstants.{FRAME_VERSION, LAST_INDEX}
use Rattle.log_values.specs.Fields.{IsClient}
use Rattle.log_values.specs.Reading.{whole}
use Rattle.frames.specs.declared.header.FrameErr.{FrameErr}
use Rattle.frames.specs.declared.header.FrameErr.TheVariants as errors
use Rattle.frames.specs.declared.header.Header.{Header}
use Rattle.frames.specs.declared.header.Lead.{Lead}
use Rattle.frames.specs.declared.header.Refused.{Refused}
use Rattle.frames.specs.declared.header.Refused.TheVariants as refused
use Rattle.frames.specs.declared.message.Msg.{Msg}
use Rattle.frames.specs.Headers.{end_number, end_index, is_sent_by, lead_at, judged}
use Rattle.frames.specs.Messages.{kind_of, body, body_at, FitsMsg}

-- the tier that a node is of; a client is of none, and none of its messages asks
abbrev pub tier_of : End → Tier
tier_of (Node n) = n.tier
tier_of (Client client) = Mid

abbrev pub IsEnd : End → Type 0
IsEnd (Node n) = n.index ≤ LAST_INDEX
IsEnd (Client client) = IsClient client

-- the sender is one that sends this kind, and the message is one that it can send
pub record FitsFrame (from : End) (msg : Msg) : Type 0 where
  pub sender : IsEnd from
  pub sent : is_sent_by from (kind_of msg) ≡ true
  pub message : FitsMsg (tier_of from) msg

abbrev pub frame : End → Msg → List ℕ
frame from msg = FRAME_VERSION ∷ (kind_of msg ∷ (end_number from ∷ (end_index from ∷ (to_be_bytes w16 (length (body msg)) ++ body msg))))

abbrev pub header_for : End → Msg → Header
header_for from msg = record { kind = kind_of msg; from = from; len = length (body msg) }

-- ---- reading

abbrev pub with_body : Header → Option Msg → Result (Header × Msg) Refused
with_body header None = Err (refused.Row 6)
with_body header (Some msg) = Ok (header, msg)

-- the body is whole, with nothing after it, and is one of its kind
abbrev pub framed : Result Header Refused → List ℕ → Result (Header × Msg) Refused
framed (Err r) left = Err r
framed (Ok header) left =
    if nat_lt (length left) header.len then Err refused.Short
    else if nat_lt header.len (length left) then Err (refused.Row 5)
    else with_body header (whole (body_at (tier_of header.from) header.kind left))

abbrev pub framed_by : Read Lead → Result (Header × Msg) Refused
framed_by None = Err refused.Short
framed_by (Some field) = framed (judged field.0) field.1

-- the frame that the bytes spell, or the first refusal that holds
unfoldable pub frame_of : List ℕ → Result (Header × Msg) Refused
frame_of bytes = framed_by (lead_at bytes)

abbrev pub refused_by : Result (Header × Msg) Refused → Option Refused
refused_by (Ok found) = None
refused_by (Err r) = Some r

-- the first refusal that holds, or none
abbrev pub refusal : List ℕ → Option Refused
refusal bytes = refused_by (frame_of bytes)

-- the bytes are the one spelling of the message from this sender
pub record IsFrame (bytes : List ℕ) (from : End) (msg : Msg) : Type 0 where
  pub fit : FitsFrame from msg
  pub parts : bytes ≡ frame from msg

-- What decoding answers is what the bytes spell or are refused with, unless memory ran out.
abbrev pub Decodes : Result (Header × Msg) FrameErr → Result (Header × Msg) Refused → Type 0
Decodes (Ok found) read = read ≡ Ok found
Decodes (Err (errors.Refused r)) read = read ≡ Err r
Decodes (Err errors.Memory) read = Unit {0}

-- an answer of this frame, unless memory ran out
abbrev pub GivesOrMemory : Result (Header × Msg) FrameErr → Header × Msg → Type 0
GivesOrMemory (Ok found) wanted = found ≡ wanted
GivesOrMemory (Err (errors.Refused r)) wanted = ⊥
GivesOrMemory (Err errors.Memory) wanted = Unit {0}

-- an answer of this refusal
abbrev pub IsRefusedBy : Result (Header × Msg) FrameErr → Refused → Type 0
IsRefusedBy (Ok found) r = ⊥
IsRefusedBy (Err (errors.Refused given)) r = given ≡ r
IsRefusedBy (Err errors.Memory) r = ⊥

-- What begins with two frames begins with one, and has one rest.
abbrev pub BeginNoOther : Type 0
BeginNoOther = (a b : End) (m n : Msg) (x y : List ℕ) → FitsFrame a m → FitsFrame b n → frame a m ++ x ≡ frame b n ++ y → (a ≡ b) × ((m ≡ n) × (x ≡ y))

-- A strict prefix of a frame is too short to be one, and a frame with bytes after it is refused for them.
pub record AreWhole : Type 0 where
  pub prefix : (from : End) (msg : Msg) (front rest : List ℕ) → FitsFrame from msg → frame from msg ≡ front ++ rest
      → (rest ≡ [] → ⊥) → refusal front ≡ Some refused.Short
  pub longer : (from : End) (msg : Msg) (more : List ℕ) → FitsFrame from msg → (more ≡ [] → ⊥) → refusal (frame from msg ++ more) ≡ Some (refused.Row 5)
