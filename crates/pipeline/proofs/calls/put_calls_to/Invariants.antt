use Rattle.std.proofs.Common.{◌≡◌, ◌++◌, map}
use Rattle.round_model.specs.Lists.{concat}
use Rattle.pipeline.specs.States.{call_of, calling}
use Rattle.pipeline.proofs.calls.put_calls_to.Given as goal

abbrev pub invariant-loop-parked : goal.invariant-loop-parked
invariant-loop-parked l = l.calls.items ≡ l.initial.calls.items ++ map call_of (calling l.tier (concat (map (λ q. q.now) l.yielded)))
