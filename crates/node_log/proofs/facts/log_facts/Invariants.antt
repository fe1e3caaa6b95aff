use Rattle.std.proofs.Common.{◌≡◌}
use Rattle.tier_model.specs.Moves.{log_facts}
use Rattle.node_log.proofs.facts.log_facts.Given as goal

abbrev pub invariant-loop-fact : goal.invariant-loop-fact
invariant-loop-fact l = l.list.items ≡ log_facts l.yielded
