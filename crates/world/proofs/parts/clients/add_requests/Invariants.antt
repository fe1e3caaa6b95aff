use Rattle.std.proofs.Common.{◌≡◌, ◌++◌, map}
use Rattle.log_model.specs.Log.{nobody}
use Rattle.round_model.specs.Lists.{each}
use Rattle.run_model.specs.World.{request_to}
use Rattle.world.specs.Parts.{sealed}
use Rattle.world.proofs.parts.clients.add_requests.Given as goal

abbrev pub invariant-loop-index : goal.invariant-loop-index
invariant-loop-index l = l.out ≡ l.fn.out ++ map sealed (each l.index nobody (request_to l.client l.seq l.body))
