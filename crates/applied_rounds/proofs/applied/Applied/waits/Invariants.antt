use Rattle.std.proofs.Common.{ℕ, ◌≡◌, ◌<◌, suc, false}
use Rattle.batcher.specs.Clients.{busy_of}
use Rattle.applied_rounds.proofs.applied.Applied.waits.Given as goal

abbrev pub invariant-clients : goal.invariant-clients
invariant-clients l = (k : ℕ) → k < l.client → busy_of l.self-inside.clients.busy (suc k) ≡ false
