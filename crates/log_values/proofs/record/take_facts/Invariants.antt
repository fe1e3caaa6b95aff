use Rattle.std.proofs.Common.{◌≡◌, ◌-◌}
use Rattle.aeg_wire.proofs.Lists.{with_front}
use Rattle.log_values.specs.Records.{facts_at}
use Rattle.log_values.proofs.record.take_facts.Given as goal

abbrev pub invariant-loop : goal.invariant-loop
invariant-loop l = with_front l.facts.items (facts_at (l.most - l.counter) l.from) ≡ facts_at l.most l.initial.from
