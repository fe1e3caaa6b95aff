-- The states in range of a backend node.
use Rattle.std.specs.Prelude.{ℕ}
use Rattle.aeg_base.specs.declared.names.Tier.{Tier}
use Rattle.log_model.specs.Ranges.{IsLogIn}
use Rattle.log_values.specs.Fields.{FitsBallot}
use Rattle.frames.specs.LogMessages.{IsCarried}
use Rattle.server_shim.specs.Ranges.{IsShimIn}
use Rattle.tier_model.specs.Back.{Back}

-- its log has values that frames of the tier can carry
pub record IsBackIn {B : Type 0} (u : ℕ) (t : Tier) (σ : Back B) : Type 0 where
  pub log : IsLogIn (IsCarried t) FitsBallot σ.log
  pub shim : IsShimIn u σ.shim
