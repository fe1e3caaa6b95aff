-- What a middle node decides on what it has in hand.
use Rattle.std.specs.Prelude.{◌≡◌, ℕ, ◌+◌, ◌*◌, ◌<◌, ◌≤◌, List}
use Rattle.std.specs.List.{AllByRecursion}
use Rattle.std.specs.declared.result.Result.{Result}
use Rattle.aeg_base.specs.declared.limits.TheConstants.{MAX_FAULTS}
use Rattle.aeg_base.specs.declared.memory.Memory.{Memory}
use Rattle.aeg_base.specs.declared.names.End.{End}
use Rattle.aeg_base.specs.declared.names.Tier.TheVariants as tiers
use Rattle.round_model.specs.Service.{Programs}
use Rattle.tier_model.specs.Moves.{Move}
use Rattle.tier_model.specs.Mid.{Mid}
use Rattle.node_log.specs.declared.decided.Decided.{Decided}
use Rattle.node_log.specs.declared.member.Member.{Member}
use Rattle.node_log.specs.declared.working.Working.{Working}
use Rattle.node_log.specs.Deciding.{DecidesMove as Decides}
use Rattle.node_log.specs.LogNodes.{IsOwnLog}
use Rattle.row_laws.specs.Mids.{IsMidIn}
use Rattle.mid_rounds.specs.declared.keeping.Keeping.{Keeping}
use Rattle.mid_rounds.specs.Mids.{mid_with}

-- one of the 2u+1 nodes of the middle tier
pub record IsMember (m : Member) : Type 0 where
  pub few : m.faults ≤ MAX_FAULTS
  pub node : m.me.index < 2 * m.faults + 1
  pub tier : m.me.tier ≡ tiers.Mid

-- what the node has in hand
abbrev pub mid_in : Member → Working Keeping → Mid
mid_in m w = mid_with m.me.index w.log.state w.rest

-- what a node of 2u+1 keeps is in range, beside this log
pub record IsKeptWell (p : Programs) (u x : ℕ) (σ : Mid) (keeping : Keeping) : Type 0 where
  pub depth : ℕ
  pub state : IsMidIn p u depth x σ
  pub tallies : AllByRecursion (λ e. e.1.faults ≡ u) keeping.tallies

-- the node's own log, and all that it keeps in range
pub record IsInRange (p : Programs) (m : Member) (w : Working Keeping) : Type 0 where
  pub log : IsOwnLog m.faults tiers.Mid m.me.index w.log
  pub kept : IsKeptWell p m.faults m.me.index (mid_in m w) w.rest

-- it decided this move, and all it has is in range then
abbrev pub DecidesMove : Programs → Member → Move Mid → Working Keeping → Working Keeping → List (End × List ℕ) → List (End × List ℕ)
    → Result Decided Memory → Type 0
DecidesMove p m move = Decides (mid_in m) (IsInRange p m) move
