use Rattle.std.proofs.Common.{◌≡◌}
use Rattle.log_model.specs.Log.{nobody}
use Rattle.round_model.specs.Lists.{each}
use Rattle.world.specs.NodeLists.{new_back}
use Rattle.world.proofs.nodes.all_nodes.new_backs.Given as goal

abbrev pub invariant-loop-me : goal.invariant-loop-me
invariant-loop-me l = l.nodes.items ≡ each l.me nobody (new_back l.u l.tier)
