use Rattle.std.proofs.Common.{◌≡◌, ◌++◌, take}
use Rattle.std.specs.List.{flat_map}
use Rattle.log_values.specs.Outcomes.{pair}
use Rattle.log_values.proofs.pair_text.put_pairs.Given as goal

abbrev pub invariant-loop-p : goal.invariant-loop-p
invariant-loop-p l = l.out ≡ l.initial.out ++ flat_map pair (take l.p-index l.pairs)
