use Rattle.std.proofs.Common.{◌≡◌, Bool, false, ◌∙◌, arith}
use Rattle.log_model.specs.Log.{has, count_below}
use Rattle.paxos_parts.proofs.Taken.{count_front}
use Rattle.paxos_parts.proofs.members.Members.count.Goals as goal

pub returns : goal.returns
returns c =
    let at_end : c.loop-node.node ≡ c.self.inside.nodes = omega arith in
    let counted : c.loop-node.count ≡ count_below c.self.inside.nodes (has c.self.inside.flags) = rw at_end at c.loop-node.invariant.0 in
    counted ∙ count_front (λ (b : Bool). b) c.self.inside.nodes c.self.inside.flags c.args.self.now false (omega arith) c.self.view_is
