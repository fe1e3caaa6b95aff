use Rattle.std.proofs.Common.{◌≡◌, ◌∙◌, ap, sym, Some}
use Rattle.std.specs.Prelude.{slice_get}
use Rattle.world.specs.Packets.{node_of, receiver_in}
use Rattle.world.proofs.Calls.DeliveredPackets.{addressed}
use Rattle.world.proofs.Calls.NodesThere.{has_node}
use Rattle.world.proofs.parts.Parts.is_taken.Goals as goal

pub is_up-requires : goal.is_up-requires
is_up-requires c =
    let r = c.requires in
    let to : receiver_in (slice_get c.args.self.now.soup c.args.packet) ≡ Some c.in-Node.node = ap receiver_in
    (sym c.in-Some.ensures) ∙ ap node_of c.in-Node.is in
    let a = addressed r.0 r.1 r.2 c.args.self.now c.args.packet c.in-Node.node r.3 to in
    has_node r.0 r.1 r.2 c.args.self.now.nodes c.in-Node.node.index c.in-Node.node.tier r.3.nodes a.there
