use Rattle.std.proofs.Common.{◌≡◌, ◌++◌, take}
use Rattle.tier_model.specs.BackRows.{answers_again}
use Rattle.node_log.specs.Packets.{all_sealed}
use Rattle.backend_node.proofs.telling.send_answers.Given as goal

abbrev pub invariant-loop-i : goal.invariant-loop-i
invariant-loop-i l = l.out ≡ l.fn.out ++ all_sealed (answers_again l.fn.member.faults l.fn.member.me.tier l.fn.member.me.index (take l.i l.codes))
