-- The states in range of a tier's nodes, and the moves of their rows.
use Rattle.std.specs.Prelude.{ℕ}
use Rattle.aeg_base.specs.declared.names.Tier.{Tier}
use Rattle.aeg_base.specs.declared.names.Tier.TheVariants as tiers
use Rattle.log_model.specs.Log.{LogState}
use Rattle.log_values.specs.declared.any_value.AnyValue.{AnyValue}
use Rattle.round_model.specs.Service.{Service}
use Rattle.tier_model.specs.Moves.{Move}
use Rattle.tier_model.specs.Kinds.{State}
use Rattle.row_laws.specs.Backs.{IsBackIn}
use Rattle.row_laws.specs.Mids.{IsMidIn}
use Rattle.row_laws.specs.Moves.{IsTaken, IsMoveTo}

-- of the node x of 2u+1, with a pipeline of this depth in the middle tier
abbrev pub IsStateIn : {B : Type 0} → Service B → ℕ → ℕ → (t : Tier) → ℕ → State B t → Type 0
IsStateIn s u depth tiers.Mid x = IsMidIn s.programs u depth x
IsStateIn s u depth tiers.Inv x = IsBackIn u tiers.Inv
IsStateIn s u depth tiers.Pay x = IsBackIn u tiers.Pay

abbrev pub log_of : (B : Type 0) (t : Tier) → State B t → LogState AnyValue
log_of B tiers.Mid σ = σ.log
log_of B tiers.Inv σ = σ.log
log_of B tiers.Pay σ = σ.log

-- such a node may make the move from this state
abbrev pub IsMoveIn : {B : Type 0} → Service B → ℕ → ℕ → (t : Tier) → ℕ → State B t → Move (State B t) → Type 0
IsMoveIn {B} s u depth t x σ move = IsMoveTo (IsStateIn s u depth t x) (log_of B t) (IsTaken s u depth) t x σ move
