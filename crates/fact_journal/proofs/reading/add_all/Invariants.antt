use Rattle.std.proofs.Common.{◌≡◌, ◌++◌}
use Rattle.fact_journal.proofs.reading.add_all.Given as goal

abbrev pub invariant-loop-fact : goal.invariant-loop-fact
invariant-loop-fact l = l.facts.items ≡ l.initial.facts.items ++ l.yielded
