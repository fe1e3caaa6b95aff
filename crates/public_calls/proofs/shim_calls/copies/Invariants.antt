use Rattle.std.proofs.Common.{◌≡◌}
use Rattle.public_calls.proofs.shim_calls.copies.Given as goal

abbrev pub invariant-loop-row : goal.invariant-loop-row
invariant-loop-row g l = l.shim.faults ≡ 1
