use Rattle.std.proofs.Common.{◌≡◌, map}
use Rattle.tier_nodes.specs.Seats.{fresh}
use Rattle.tier_nodes.proofs.tiers.Tier.new.Given as goal

abbrev pub invariant-loop-node : goal.invariant-loop-node
invariant-loop-node g l = l.posts.items ≡ map fresh l.yielded
