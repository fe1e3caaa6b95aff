use Rattle.std.proofs.Common.{◌≡◌, length, take}
use Rattle.log_values.proofs.entry.same_entries.Given as goal

abbrev pub invariant-loop-i : goal.invariant-loop-i
invariant-loop-i l = record { lengths : length l.a ≡ length l.b; so_far : take l.i l.a ≡ take l.i l.b }
