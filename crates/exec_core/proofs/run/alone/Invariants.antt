use Rattle.std.proofs.Common.{◌≡◌, ◌++◌, drop}
use Rattle.key_mixer.specs.Lists.{lists_of}
use Rattle.exec_core.proofs.Orders.{singles}
use Rattle.exec_core.proofs.run.alone.Given as goal

-- the groups made, and those to come
abbrev pub invariant-numbers : goal.invariant-numbers
invariant-numbers l = lists_of l.groups.items ++ singles (drop l.i-index l.order) ≡ singles l.order
