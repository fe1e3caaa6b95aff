use Rattle.std.proofs.Common.{◌≡◌, map}
use Rattle.tier_model.specs.Moves.{as_fact}
use Rattle.node_log.proofs.facts.facts_of.Given as goal

abbrev pub invariant-loop-fact : goal.invariant-loop-fact
invariant-loop-fact l = l.list.items ≡ map as_fact l.yielded
