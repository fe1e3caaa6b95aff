use Rattle.std.proofs.Common.{◌≡◌, ◌++◌}
use Rattle.log_model.specs.Log.{to_each}
use Rattle.paxos_log.specs.TierLog.{skips}
use Rattle.paxos_log.proofs.messages.send_each.Given as goal

abbrev pub invariant-loop-node : goal.invariant-loop-node
invariant-loop-node g l = l.sends.items ≡ l.initial.sends.items ++ to_each l.node (skips l.skip) l.message
