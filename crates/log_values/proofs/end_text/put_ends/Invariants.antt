use Rattle.std.proofs.Common.{◌≡◌, ◌++◌, take}
use Rattle.std.specs.List.{flat_map}
use Rattle.log_values.specs.Outcomes.{ending}
use Rattle.log_values.proofs.end_text.put_ends.Given as goal

abbrev pub invariant-loop-end : goal.invariant-loop-end
invariant-loop-end l = l.out ≡ l.initial.out ++ flat_map ending (take l.end-index l.ends)
