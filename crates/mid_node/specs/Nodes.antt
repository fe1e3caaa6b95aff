-- A middle node with its service.
use Rattle.std.specs.Prelude.{ℕ}
use Rattle.tier_model.specs.Mid.{Mid}
use Rattle.node_log.specs.Views.{View}

-- the node, the depth of its pipeline, and its service
pub record Seen (S : Type 0) : Type 0 where
  pub node : View Mid
  pub depth : ℕ
  pub service : S
