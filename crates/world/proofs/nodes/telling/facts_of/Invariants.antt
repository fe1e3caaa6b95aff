use Rattle.std.proofs.Common.{◌≡◌, map}
use Rattle.tier_model.specs.Moves.{as_fact}
use Rattle.world.proofs.nodes.telling.facts_of.Given as goal

abbrev pub invariant-loop-fact : goal.invariant-loop-fact
invariant-loop-fact l = l.list.items ≡ map as_fact l.yielded
