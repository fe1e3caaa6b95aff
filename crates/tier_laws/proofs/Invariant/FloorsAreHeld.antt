-- Each call below a floor is served and held by more than u nodes, and so is each call that a round waits for.
use Rattle.std.proofs.Common.{◌≡◌, ℕ, ◌+◌, ◌*◌, ◌<◌, List, Some}
use Rattle.std.specs.Prelude.{slice_get}
use Rattle.aeg_base.specs.declared.names.Tier.{Tier}
use Rattle.log_model.specs.Log.{count_below}
use Rattle.round_model.specs.Tables.{Number, Want}
use Rattle.run_model.specs.World.{Config}
use Rattle.tier_laws.proofs.Invariant.Past.{Past, holds}

abbrev pub ManyHold : {B : Type 0} → Config B → Past B → Tier → ℕ → Type 0
ManyHold c P t n = c.u < count_below (2 * c.u + 1) (holds P t n)

pub record FloorOk {B : Type 0} (c : Config B) (P : Past B) (t : Tier) (g : ℕ) : Type 0 where
  pub served : (n : ℕ) → 0 < n → n < g → (code : ℕ) × (P.server.served t n ≡ Some code)
  pub many : (n : ℕ) → 0 < n → n < g → ManyHold c P t n

pub record JobHeld {B : Type 0} (c : Config B) (P : Past B) (ws : List Want) : Type 0 where
  pub at : (i : ℕ) (w : Want) (k : Number) → slice_get ws i ≡ Some w → w.call ≡ Some k → ManyHold c P k.tier k.num
