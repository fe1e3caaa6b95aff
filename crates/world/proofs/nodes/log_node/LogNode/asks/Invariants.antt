use Rattle.std.proofs.Common.{◌≡◌}
use Rattle.log_model.specs.Log.{is}
use Rattle.log_model.specs.declared.message.PaxMsg.TheVariants.{Ask}
use Rattle.round_model.specs.Lists.{each}
use Rattle.world.proofs.nodes.log_node.LogNode.asks.Given as goal

abbrev pub invariant-loop-index : goal.invariant-loop-index
invariant-loop-index l = l.list ≡ each l.index (is l.self-inside.me.index) (λ y. (y, Ask l.at))
