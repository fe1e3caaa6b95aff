-- What a backend node decides on what it has in hand.
use Rattle.std.specs.Prelude.{ℕ, ◌+◌, ◌*◌, ◌<◌, ◌≤◌, List}
use Rattle.std.specs.declared.result.Result.{Result}
use Rattle.aeg_base.specs.declared.limits.TheConstants.{MAX_FAULTS}
use Rattle.aeg_base.specs.declared.memory.Memory.{Memory}
use Rattle.aeg_base.specs.declared.names.End.{End}
use Rattle.svc_api.specs.Plan.{IsBackend}
use Rattle.server_shim.specs.Ranges.{IsShimIn}
use Rattle.tier_model.specs.Moves.{Move}
use Rattle.tier_model.specs.Back.{Back}
use Rattle.node_log.specs.declared.decided.Decided.{Decided}
use Rattle.node_log.specs.declared.member.Member.{Member}
use Rattle.node_log.specs.declared.working.Working.{Working}
use Rattle.node_log.specs.Deciding.{DecidesMove as Decides}
use Rattle.node_log.specs.LogNodes.{IsOwnLog}
use Rattle.backend_node.specs.declared.serving.Serving.{Serving}
use Rattle.backend_node.specs.Backends.{back_with}

-- one of the 2u+1 nodes of a backend's tier
pub record IsMember (m : Member) : Type 0 where
  pub few : m.faults ≤ MAX_FAULTS
  pub node : m.me.index < 2 * m.faults + 1
  pub tier : IsBackend m.me.tier

-- what the node has in hand
abbrev pub back_in : {B : Type 0} → Working (Serving B) → Back B
back_in w = back_with w.log.state w.rest

-- the node's own log, and a shim in range
pub record IsInRange {B : Type 0} (m : Member) (w : Working (Serving B)) : Type 0 where
  pub log : IsOwnLog m.faults m.me.tier m.me.index w.log
  pub shim : IsShimIn m.faults w.rest.shim

-- it decided this move, and all it has is in range then
abbrev pub DecidesMove : {B : Type 0} → Member → Move (Back B) → Working (Serving B) → Working (Serving B) → List (End × List ℕ) → List (End × List ℕ)
    → Result Decided Memory → Type 0
DecidesMove m move = Decides back_in (IsInRange m) move
