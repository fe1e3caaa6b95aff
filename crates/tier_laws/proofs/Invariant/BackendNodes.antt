-- A backend node beside its log: its backend, codes and floor are those of what it learned.
use Rattle.std.proofs.Common.{◌≡◌, ℕ, ◌<◌, true, List, Some, ◌≤◌}
use Rattle.std.specs.Prelude.{◌⊎◌}
use Rattle.aeg_base.specs.declared.names.Tier.{Tier}
use Rattle.log_values.specs.declared.any_value.AnyValue.{AnyValue}
use Rattle.round_model.specs.Numbered.{rises, find}
use Rattle.round_model.specs.Service.{Backend}
use Rattle.round_model.specs.Shims.{copies_at, copy_of, floor_at}
use Rattle.run_model.specs.Histories.{back_run, floor_of}
use Rattle.run_model.specs.World.{Config}
use Rattle.tier_laws.proofs.Invariant.Past.{Past}
use Rattle.tier_laws.proofs.Invariant.FloorsAreHeld.{FloorOk}
use Rattle.tier_model.specs.Back.{Back}

-- the backend's state, its kept codes and its floor are those of what is learned
pub record Tied {B : Type 0} (b : Backend B) (vs : List AnyValue) (σ : Back B) : Type 0 where
  pub state : σ.state ≡ (back_run b vs).state
  pub codes : (n code : ℕ) → (back_run b vs).code n ≡ Some code → (n < σ.shim.floor) ⊎ (find σ.shim.kept n ≡ Some code)
  pub kept : (n code : ℕ) → find σ.shim.kept n ≡ Some code → (back_run b vs).code n ≡ Some code
  pub floor : (n : ℕ) → 0 < n → n < σ.shim.floor → (code : ℕ) × ((back_run b vs).code n ≡ Some code)
  pub greatest : σ.shim.floor ≡ floor_of vs
  pub above : (n code : ℕ) → find σ.shim.kept n ≡ Some code → σ.shim.floor ≤ n
  pub in_order : rises 0 σ.shim.kept ≡ true

pub record BackOther {B : Type 0} (c : Config B) (P : Past B) (t : Tier) (σ : Back B) : Type 0 where
  pub faults : σ.shim.faults ≡ c.u
  pub copies : (n y : ℕ) (text : List ℕ) → copy_of (copies_at σ.shim n) y ≡ Some text → P.server.calls t n ≡ Some text
  pub in_order : rises 0 σ.shim.copies ≡ true
  pub floors : (y : ℕ) → FloorOk c P t (floor_at σ.shim.floors y)
  pub kept : (n code : ℕ) → find σ.shim.kept n ≡ Some code → P.server.served t n ≡ Some code
