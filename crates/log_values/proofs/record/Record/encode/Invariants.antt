use Rattle.std.proofs.Common.{◌≡◌, ◌++◌, take}
use Rattle.log_values.specs.Records.{record_text}
use Rattle.log_values.proofs.record.Record.encode.Given as goal

abbrev pub invariant-loop-fact : goal.invariant-loop-fact
invariant-loop-fact l = l.out ≡ l.initial.out ++ record_text (take l.fact-index l.fact-items)
