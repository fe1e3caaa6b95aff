use Rattle.std.proofs.Common.{◌≡◌}
use Rattle.exec_model.specs.Jobs.{below}
use Rattle.rollback.proofs.cold.numbers.Given as goal

abbrev pub invariant-numbers : goal.invariant-numbers
invariant-numbers l = l.order.items ≡ below l.i
