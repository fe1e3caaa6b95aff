use Rattle.std.proofs.Common.{◌≡◌, ◌++◌}
use Rattle.paxos_log.specs.TierLog.{skips}
use Rattle.round_model.specs.Lists.{each}
use Rattle.tier_model.specs.Moves.{node}
use Rattle.node_log.proofs.sending.send_bytes.Given as goal

abbrev pub invariant-loop-index : goal.invariant-loop-index
invariant-loop-index l = l.out ≡ l.fn.out ++ each l.index (skips l.but) (λ y. (node l.to y, l.bytes))
