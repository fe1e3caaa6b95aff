-- Packets by their numbers: to whom they go, and what they say.
use Rattle.std.specs.Prelude.{ℕ, Bool, true, false, nat_lt, List, length, Option, Some, None}
use Rattle.std.specs.declared.result.Result.{Result}
use Rattle.std.specs.declared.result.Result.TheVariants.{Ok, Err}
use Rattle.aeg_base.specs.declared.names.NodeId.{NodeId}
use Rattle.aeg_base.specs.declared.names.End.{End}
use Rattle.aeg_base.specs.declared.names.End.TheVariants.{Node, Client}
use Rattle.frames.specs.declared.header.Header.{Header}
use Rattle.frames.specs.declared.header.Refused.{Refused}
use Rattle.frames.specs.declared.message.Msg.{Msg}
use Rattle.frames.specs.Frames.{frame_of}
use Rattle.world.specs.declared.nodes.all_nodes.Nodes.{Nodes}
use Rattle.world.specs.NodeLists.{up_at}

abbrev pub node_of : End → Option NodeId
node_of (Node n) = Some n
node_of (Client y) = None

abbrev pub receiver_in : Option (End × List ℕ) → Option NodeId
receiver_in None = None
receiver_in (Some packet) = node_of packet.0

abbrev pub message_of : Result (Header × Msg) Refused → Option (Header × Msg)
message_of (Ok found) = Some found
message_of (Err refusal) = None

abbrev pub message_in : Option (End × List ℕ) → Option (Header × Msg)
message_in None = None
message_in (Some packet) = message_of (frame_of packet.1)

-- it has more bytes than these
abbrev pub is_cut_in : Option (End × List ℕ) → ℕ → Bool
is_cut_in None bytes = false
is_cut_in (Some packet) bytes = nat_lt bytes (length packet.1)

-- a client is always there
abbrev pub is_there_in : Nodes → End → Bool
is_there_in nodes (Node n) = up_at nodes n
is_there_in nodes (Client y) = true

-- who it goes to is there
abbrev pub is_taken_in : Nodes → Option (End × List ℕ) → Bool
is_taken_in nodes None = false
is_taken_in nodes (Some packet) = is_there_in nodes packet.0
