use Rattle.std.proofs.Common.{◌≡◌, ◌-◌}
use Rattle.aeg_wire.specs.Formats.{list_at}
use Rattle.aeg_wire.proofs.Lists.{with_front}
use Rattle.log_values.specs.Values.{entry_at}
use Rattle.log_values.proofs.entry.take_some.Given as goal

abbrev pub invariant-loop : goal.invariant-loop
invariant-loop l = with_front l.entries.items (list_at entry_at (l.count - l.counter) l.from) ≡ list_at entry_at l.count l.initial.from
