-- The rows of a backend's nodes make moves of their tier.
use Rattle.std.specs.Prelude.{ℕ, ◌+◌, ◌*◌, ◌<◌, ◌≤◌, List, [], None}
use Rattle.aeg_base.specs.declared.limits.TheConstants.{MAX_FAULTS}
use Rattle.aeg_base.specs.declared.names.End.{End}
use Rattle.aeg_base.specs.declared.names.Tier.{Tier}
use Rattle.svc_api.specs.Plan.{IsBackend}
use Rattle.fact_journal.specs.Fitting.{Fit, all_facts, open_after_all}
use Rattle.frames.specs.Frames.{FitsFrame}
use Rattle.frames.specs.declared.message.Msg.{Msg}
use Rattle.log_model.specs.Log.{LogState}
use Rattle.log_model.specs.Recover.{newest}
use Rattle.log_values.specs.declared.any_value.AnyValue.{AnyValue}
use Rattle.log_values.specs.declared.fact.Fact.{Fact}
use Rattle.node_log.specs.Views.{View}
use Rattle.round_model.specs.Service.{Backend, Programs, Service}
use Rattle.tier_model.specs.Back.{Back}
use Rattle.tier_model.specs.BackRows.{leads, offers, on_frame, recovered, retry}
use Rattle.tier_model.specs.Moves.{Move}
use Rattle.row_laws.proofs.BackMoves.{frame_in, leads_in, offers_in, recovered_in, recovered_opens, retry_in}
use Rattle.row_laws.specs.Backs.{IsBackIn}
use Rattle.row_laws.specs.Services.{IsBackendIn}
use Rattle.tier_nodes.specs.Moving.{IsMoveOf, IsRestored, goes}

-- one of the 2u+1 nodes of a backend's tier
pub record IsBackNode {S : Type 0} (v : View S) : Type 0 where
  pub few : v.faults ≤ MAX_FAULTS
  pub node : v.me < 2 * v.faults + 1
  pub tier : IsBackend v.tier

abbrev pub log_of : {B : Type 0} → Back B → LogState AnyValue
log_of σ = σ.log

-- the move is one of the tier
abbrev pub IsBackMove : {B : Type 0} → View (Back B) → Back B → Move (Back B) → Type 0
IsBackMove {B} v σ move = IsMoveOf (IsBackIn {B = B} v.faults v.tier) log_of v.tier v.me σ move

no_programs : Programs
no_programs = record { table = λ who text stage. None; begins = λ who text stage. None; spell = λ outcome. []; read = λ token. None }

-- a service with this backend in each tier
abbrev served_by : {B : Type 0} → Backend B → Service B
served_by b = record { programs = no_programs; backend = λ t. b }

module _ {B : Type 0} (b : Backend B) (codes : IsBackendIn b) (v : View (Back B)) where
  pub frames : (σ : Back B) (from : End) (message : Msg) → IsBackNode v → IsBackIn v.faults v.tier σ → FitsFrame from message
      → IsBackMove v σ (on_frame v.faults b v.tier v.me σ from message)
  frames σ from message m k f = goes _ _ _ v.tier v.me σ _ (frame_in (served_by b) v.faults 0 v.tier v.me σ from message m.few m.node m.tier codes k f)

  pub leading : (σ : Back B) → IsBackNode v → IsBackIn v.faults v.tier σ → IsBackMove v σ (leads v.faults b v.tier v.me σ)
  leading σ m k = goes _ _ _ v.tier v.me σ _ (leads_in (served_by b) v.faults 0 v.tier v.me σ m.few m.node m.tier codes k)

  pub offering : (σ : Back B) → IsBackNode v → IsBackIn v.faults v.tier σ → IsBackMove v σ (offers v.faults b v.tier v.me σ)
  offering σ m k = goes _ _ _ v.tier v.me σ _ (offers_in (served_by b) v.faults 0 v.tier v.me σ m.few m.node m.tier codes k)

  pub retries : (σ : Back B) → IsBackNode v → IsBackIn v.faults v.tier σ → IsBackMove v σ (retry v.faults v.tier v.me σ)
  retries σ m k = goes _ _ _ v.tier v.me σ _ (retry_in (served_by b) v.faults 0 v.tier v.me σ m.few m.node m.tier k)

  pub restored : (rs : List (List Fact)) → Fit v.tier rs
      → IsRestored (IsBackIn {B = B} v.faults v.tier) log_of (open_after_all 0 (all_facts rs)) (recovered v.faults b (newest rs))
  restored rs fit = record {
    state = recovered_in (served_by b) v.faults v.tier rs codes fit;
    opens = recovered_opens (served_by b) v.faults v.tier rs;
  }
