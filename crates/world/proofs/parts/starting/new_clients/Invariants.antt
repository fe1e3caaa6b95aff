use Rattle.std.proofs.Common.{◌≡◌}
use Rattle.log_model.specs.Log.{nobody}
use Rattle.round_model.specs.Lists.{each}
use Rattle.net_script.specs.Clients.{fresh}
use Rattle.world.proofs.parts.starting.new_clients.Given as goal

abbrev pub invariant-loop-client : goal.invariant-loop-client
invariant-loop-client l = l.clients.items ≡ each l.client nobody fresh
