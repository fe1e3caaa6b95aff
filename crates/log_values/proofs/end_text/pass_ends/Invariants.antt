use Rattle.std.proofs.Common.{◌≡◌, ◌-◌}
use Rattle.aeg_wire.specs.Formats.{list_at}
use Rattle.log_values.specs.Outcomes.{ending_at}
use Rattle.log_values.specs.Reading.{left_after}
use Rattle.log_values.proofs.end_text.pass_ends.Given as goal

abbrev pub invariant-loop : goal.invariant-loop
invariant-loop l = left_after (list_at ending_at (l.count - l.counter) l.from) ≡ left_after (list_at ending_at l.count l.initial.from)
