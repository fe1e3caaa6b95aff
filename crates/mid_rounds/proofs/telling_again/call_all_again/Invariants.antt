use Rattle.std.proofs.Common.{◌≡◌, ◌++◌, take}
use Rattle.std.specs.List.{flat_map}
use Rattle.node_log.specs.Packets.{all_sealed}
use Rattle.mid_rounds.specs.Telling.{call_unless_held}
use Rattle.mid_rounds.proofs.telling_again.call_all_again.Given as goal

abbrev pub invariant-loop-call : goal.invariant-loop-call
invariant-loop-call l =
    l.out ≡ l.fn.out ++ flat_map (λ call. all_sealed (call_unless_held l.fn.member.faults l.fn.member.me.index l.held call)) (take l.call-index l.calls)
