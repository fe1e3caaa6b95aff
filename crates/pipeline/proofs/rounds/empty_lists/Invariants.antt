use Rattle.std.proofs.Common.{◌≡◌, [], replicate}
use Rattle.pipeline.proofs.rounds.empty_lists.Given as goal

abbrev pub invariant-loop : goal.invariant-loop
invariant-loop l = l.queue.items ≡ replicate l.counter []
