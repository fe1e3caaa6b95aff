use Rattle.std.proofs.Common.{◌≡◌, drop}
use Rattle.svc_api.specs.Orders.{mem}
use Rattle.exec_core.proofs.rounds.contains.Given as goal

abbrev pub invariant-loop-x : goal.invariant-loop-x
invariant-loop-x l = mem l.i (drop l.x-index l.xs) ≡ mem l.i l.xs
