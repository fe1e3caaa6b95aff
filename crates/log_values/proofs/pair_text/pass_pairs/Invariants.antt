use Rattle.std.proofs.Common.{◌≡◌, ◌-◌, None}
use Rattle.log_values.specs.Outcomes.{pairs_at}
use Rattle.log_values.specs.Reading.{left_after}
use Rattle.log_values.proofs.pair_text.pass_pairs.Given as goal

abbrev pub invariant-loop : goal.invariant-loop
invariant-loop l = left_after (pairs_at l.last (l.count - l.counter) l.from) ≡ left_after (pairs_at None l.count l.initial.from)
