use Rattle.std.proofs.Common.{◌≡◌, ◌-◌, None}
use Rattle.aeg_wire.proofs.Lists.{with_front}
use Rattle.log_values.specs.Outcomes.{pairs_at}
use Rattle.log_values.proofs.pair_text.take_pairs.Given as goal

abbrev pub invariant-loop : goal.invariant-loop
invariant-loop l = with_front l.pairs.items (pairs_at l.last (l.count - l.counter) l.from) ≡ pairs_at None l.count l.initial.from
