use Rattle.std.proofs.Common.{◌≡◌, ◌++◌, map, take}
use Rattle.tier_model.specs.Moves.{log_packets}
use Rattle.world.specs.Parts.{sealed}
use Rattle.world.proofs.nodes.telling.send_all.Given as goal

abbrev pub invariant-loop-i : goal.invariant-loop-i
invariant-loop-i l = l.out ≡ l.fn.out ++ map sealed (log_packets l.from.tier l.from.index (take l.i l.list))
