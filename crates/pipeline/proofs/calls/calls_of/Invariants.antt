use Rattle.std.proofs.Common.{◌≡◌, map, take}
use Rattle.pipeline.specs.States.{call_of}
use Rattle.pipeline.proofs.calls.calls_of.Given as goal

abbrev pub invariant-loop-waits : goal.invariant-loop-waits
invariant-loop-waits l = l.calls.items ≡ map call_of (take l.waits-index l.parked)
