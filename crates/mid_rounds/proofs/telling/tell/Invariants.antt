use Rattle.std.proofs.Common.{◌≡◌, ◌++◌, take}
use Rattle.std.specs.List.{flat_map}
use Rattle.node_log.specs.Packets.{all_sealed}
use Rattle.mid_rounds.specs.Telling.{told_to}
use Rattle.mid_rounds.proofs.telling.tell.Given as goal

abbrev pub invariant-loop-one : goal.invariant-loop-one
invariant-loop-one l =
    l.out ≡ l.fn.out ++ flat_map (λ one. all_sealed (told_to l.fn.member.faults l.fn.member.me.index one)) (take l.one-index l.told)
