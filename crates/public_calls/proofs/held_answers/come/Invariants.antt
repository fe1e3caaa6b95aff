use Rattle.std.proofs.Common.{◌≡◌}
use Rattle.public_calls.proofs.held_answers.come.Given as goal

abbrev pub invariant-loop-row : goal.invariant-loop-row
invariant-loop-row g l = l.held.faults ≡ 1
