use Rattle.std.proofs.Common.{◌≡◌, ◌++◌, take}
use Rattle.tier_model.specs.Moves.{log_packets}
use Rattle.node_log.specs.Packets.{all_sealed}
use Rattle.node_log.proofs.sending.send_log.Given as goal

abbrev pub invariant-loop-i : goal.invariant-loop-i
invariant-loop-i l = l.out ≡ l.fn.out ++ all_sealed (log_packets l.from.tier l.from.index (take l.i l.list))
