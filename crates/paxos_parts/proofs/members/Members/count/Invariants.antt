use Rattle.std.proofs.Common.{◌≡◌, ◌≤◌}
use Rattle.log_model.specs.Log.{has, count_below}
use Rattle.paxos_parts.proofs.members.Members.count.Given as goal

abbrev pub invariant-loop-node : goal.invariant-loop-node
invariant-loop-node l = (l.count ≡ count_below l.node (has l.self-inside.flags)) × (l.count ≤ l.node)
