use Rattle.std.proofs.Common.{◌≡◌, ◌++◌, map, take}
use Rattle.pipeline.specs.States.{call_of, calling}
use Rattle.pipeline.proofs.calls.put_calls_among.Given as goal

abbrev pub invariant-loop-waits : goal.invariant-loop-waits
invariant-loop-waits l = l.calls.items ≡ l.initial.calls.items ++ map call_of (calling l.tier (take l.waits-index l.parked))
