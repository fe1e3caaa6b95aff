use Rattle.std.proofs.Common.{◌≡◌, take}
use Rattle.world.proofs.Rows.PendingPlaces.{joined}
use Rattle.world.proofs.nodes.pending.Pending.batch.Given as goal

abbrev pub invariant-loop-client : goal.invariant-loop-client
invariant-loop-client l = l.batch.items ≡ take 8 (joined l.self-inside.entries l.client)
