use Rattle.std.proofs.Common.{◌≡◌, take}
use Rattle.log_values.proofs.entry.copy_entries.Given as goal

abbrev pub invariant-loop-e : goal.invariant-loop-e
invariant-loop-e l = l.copy ≡ take l.e-index l.entries
