use Rattle.std.proofs.Common.{◌≡◌, drop}
use Rattle.svc_api.specs.Orders.{mem}
use Rattle.world.proofs.observer.has.Given as goal

-- what is left tells what all tell
abbrev pub invariant-loop-sender : goal.invariant-loop-sender
invariant-loop-sender l = mem l.from (drop l.sender-index l.senders) ≡ mem l.from l.senders
