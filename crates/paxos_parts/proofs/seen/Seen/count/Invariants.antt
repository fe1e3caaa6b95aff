use Rattle.std.proofs.Common.{◌≡◌, ◌≤◌}
use Rattle.log_model.specs.Log.{count_below, is_ballot, seen_at}
use Rattle.paxos_parts.proofs.seen.Seen.count.Given as goal

abbrev pub invariant-loop-node : goal.invariant-loop-node
invariant-loop-node l = (l.count ≡ count_below l.node (λ node. is_ballot l.ballot (seen_at l.self-inside.ballots node))) × (l.count ≤ l.node)
