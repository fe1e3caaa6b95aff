use Rattle.std.proofs.Common.{◌≡◌, ◌-◌}
use Rattle.aeg_wire.specs.Formats.{list_at}
use Rattle.aeg_wire.proofs.Lists.{with_front}
use Rattle.log_values.specs.Outcomes.{ending_at}
use Rattle.log_values.proofs.end_text.take_ends.Given as goal

abbrev pub invariant-loop : goal.invariant-loop
invariant-loop l = with_front l.ends.items (list_at ending_at (l.count - l.counter) l.from) ≡ list_at ending_at l.count l.initial.from
