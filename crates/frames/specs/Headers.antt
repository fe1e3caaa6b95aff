-- The first six bytes of a frame: version, kind, the sender's tier and index, and the body's length.
use Rattle.std.specs.Prelude.{◌≡◌, ℕ, List, Option, Some, None, Result, Ok, Err, Bool, nat_lt, nat_le, not, ◌&&◌, ◌||◌, ◌==◌, if◌then◌else◌}
use Rattle.std.specs.Int.{w16}
use Rattle.aeg_base.specs.declared.limits.TheConstants.{CLIENTS, BODY_BYTES}
use Rattle.aeg_base.specs.declared.names.End.{End}
use Rattle.aeg_base.specs.declared.names.End.TheVariants.{Node, Client}
use Rattle.aeg_base.specs.declared.names.Tier.{Tier}
use Rattle.aeg_base.specs.declared.names.Tier.TheVariants.{Mid, Inv, Pay}
use Rattle.aeg_wire.specs.Fields.{Read, byte_at, number_at}
use Rattle.aeg_wire.specs.Formats.{made, both}
use Rattle.log_values.specs.declared.format.TheConstants.{FRAME_VERSION, LAST_KIND, LAST_INDEX, MID_TIER, INV_TIER}
use Rattle.log_values.specs.declared.format.TheConstants.{PAY_TIER, CLIENT_SENDER, REQUEST_KIND, REPLY_KIND}
use Rattle.log_values.specs.declared.format.TheConstants.{PREPARE_KIND, LEARN_KIND, ANSWER_KIND, BEHIND_KIND}
use Rattle.log_values.specs.Fields.{tier_number}
use Rattle.frames.specs.declared.header.Header.{Header}
use Rattle.frames.specs.declared.header.Lead.{Lead}
use Rattle.frames.specs.declared.header.Refused.{Refused}
use Rattle.frames.specs.declared.header.Refused.TheVariants as refused

abbrev pub node_of : Tier → ℕ → End
node_of tier index = Node (record { tier = tier; index = index })

-- the byte of a sender's tier: 3 is a client
abbrev pub end_number : End → ℕ
end_number (Node n) = tier_number n.tier
end_number (Client client) = CLIENT_SENDER

-- the byte of a sender's index: a client's is its number
abbrev pub end_index : End → ℕ
end_index (Node n) = n.index
end_index (Client client) = client

-- who sends by these two bytes
unfoldable pub sender_of : ℕ → ℕ → Option End
sender_of tier index =
    if tier == CLIENT_SENDER then (if nat_le 1 index && nat_le index CLIENTS then Some (Client index) else None)
    else if nat_lt LAST_INDEX index then None
    else if tier == MID_TIER then Some (node_of Mid index)
    else if tier == INV_TIER then Some (node_of Inv index)
    else if tier == PAY_TIER then Some (node_of Pay index)
    else None

-- a middle node sends all but Requests and Answers
abbrev pub is_sent_by_tier : Tier → ℕ → Bool
is_sent_by_tier Mid kind = nat_le REPLY_KIND kind && not (kind == ANSWER_KIND)
is_sent_by_tier Inv kind = (nat_le PREPARE_KIND kind && nat_le kind LEARN_KIND) || (kind == ANSWER_KIND || kind == BEHIND_KIND)
is_sent_by_tier Pay kind = (nat_le PREPARE_KIND kind && nat_le kind LEARN_KIND) || (kind == ANSWER_KIND || kind == BEHIND_KIND)

-- a client sends Requests; a backend node sends messages of its log and Answers
abbrev pub is_sent_by : End → ℕ → Bool
is_sent_by (Node n) kind = is_sent_by_tier n.tier kind
is_sent_by (Client client) kind = kind == REQUEST_KIND

-- the fields as they stand
unfoldable pub lead_at : List ℕ → Read Lead
lead_at bytes = made (λ p. record { version = p.0; kind = p.1.0; tier = p.1.1.0; index = p.1.1.1.0; len = p.1.1.1.1 })
    (both byte_at (λ _. both byte_at (λ _. both byte_at (λ _. both byte_at (λ _. number_at w16)))) bytes)

-- a known sender sends this kind, with a body within the limit
abbrev pub from_sender : Option End → Lead → Result Header Refused
from_sender None lead = Err (refused.Row 3)
from_sender (Some from) lead =
    if is_sent_by from lead.kind then
    (if nat_lt BODY_BYTES lead.len then Err (refused.Row 4) else Ok (record { kind = lead.kind; from = from; len = lead.len }))
    else Err (refused.Row 3)

-- the first row that refuses the fields
unfoldable pub judged : Lead → Result Header Refused
judged lead =
    if not (lead.version == FRAME_VERSION) then Err (refused.Row 1)
    else if nat_lt lead.kind REQUEST_KIND then Err (refused.Row 2)
    else if nat_lt LAST_KIND lead.kind then Err (refused.Row 2)
    else from_sender (sender_of lead.tier lead.index) lead

abbrev pub header_by : Read Lead → Result Header Refused
header_by None = Err refused.Short
header_by (Some field) = judged field.0

-- the header of the bytes, or the first refusal
abbrev pub header_of : List ℕ → Result Header Refused
header_of bytes = header_by (lead_at bytes)

-- a reader answered the header, and left what is after it
abbrev pub Headed : Result Header Refused → List ℕ → Read Lead → Type 0
Headed answer left None = answer ≡ Err refused.Short
Headed answer left (Some field) = (answer ≡ judged field.0) × (left ≡ field.1)
