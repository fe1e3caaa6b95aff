-- The rows of a middle node make moves of its tier.
use Rattle.std.specs.Prelude.{◌≡◌, ℕ, ◌+◌, ◌*◌, ◌<◌, ◌≤◌, List}
use Rattle.aeg_base.specs.declared.limits.TheConstants.{MAX_FAULTS}
use Rattle.aeg_base.specs.declared.names.End.{End}
use Rattle.aeg_base.specs.declared.names.Tier.TheVariants as tiers
use Rattle.std.proofs.Common.{sym, subst}
use Rattle.std.specs.List.{AllByRecursion}
use Rattle.fact_journal.specs.Fitting.{FactsFit, Fit, all_facts, open_after_all}
use Rattle.frames.specs.Frames.{FitsFrame}
use Rattle.frames.specs.declared.message.Msg.{Msg}
use Rattle.log_model.specs.Log.{LogState, open_at}
use Rattle.log_model.specs.Recover.{newest}
use Rattle.log_values.specs.declared.any_value.AnyValue.{AnyValue}
use Rattle.log_values.specs.declared.fact.Fact.{Fact}
use Rattle.mid_node.specs.Nodes.{Seen}
use Rattle.mid_rounds.proofs.Services.{service_by}
use Rattle.round_model.specs.Service.{Programs}
use Rattle.tier_model.specs.Mid.{Mid}
use Rattle.tier_model.specs.MidRows.{leads, offers, on_frame, recovered, retry, work}
use Rattle.tier_model.specs.Moves.{Move, node}
use Rattle.row_laws.proofs.MidAgain.{recovered_in, recovered_opens, retry_in}
use Rattle.row_laws.proofs.MidMoves.{frame_in, leads_in, offers_in, work_in}
use Rattle.row_laws.specs.Mids.{IsMidIn}
use Rattle.row_laws.specs.Moves.{IsSealable}
use Rattle.row_laws.specs.Services.{IsServiceIn}
use Rattle.tier_nodes.specs.Moving.{IsMoveOf, IsRestored, goes}

-- one of the 2u+1 nodes of the middle tier
pub record IsMidNode {S : Type 0} (n : Seen S) : Type 0 where
  pub few : n.node.faults ≤ MAX_FAULTS
  pub node : n.node.me < 2 * n.node.faults + 1
  pub tier : n.node.tier ≡ tiers.Mid
  pub depth : 1 ≤ n.depth

abbrev pub log_of : Mid → LogState AnyValue
log_of σ = σ.log

-- in range, with a pipeline of some depth
abbrev pub IsInRange : {S : Type 0} → Programs → Seen S → Mid → Type 0
IsInRange p n σ = (depth : ℕ) × IsMidIn p n.node.faults depth n.node.me σ

-- the move is one of the tier
abbrev pub IsMidMove : {S : Type 0} → Programs → Seen S → Mid → Move Mid → Type 0
IsMidMove p n σ move = IsMoveOf (IsInRange p n) log_of n.node.tier n.node.me σ move

module _ {S : Type 0} (p : Programs) (service : IsServiceIn p) (n : Seen S) where
  -- it keeps to the range of the same depth
  deep : (depth : ℕ) (σ : Mid) (move : Move Mid) → n.node.tier ≡ tiers.Mid → IsMoveOf (IsMidIn p n.node.faults depth n.node.me) log_of tiers.Mid n.node.me σ move
      → IsMidMove p n σ move
  deep depth σ move t k = record {
    state = (depth, k.state);
    sealable = subst (λ z. AllByRecursion (IsSealable (node z n.node.me)) move.sends) (sym t) k.sealable;
    few = k.few;
    short = k.short;
    facts = subst (λ z. FactsFit z (open_at σ.log) move.facts) (sym t) k.facts;
    opens = k.opens;
  }

  pub frames : (σ : Mid) (from : End) (message : Msg) → IsMidNode n → IsInRange p n σ → FitsFrame from message
      → IsMidMove p n σ (on_frame n.node.faults p n.node.me σ from message)
  frames σ from message m k f = deep k.0 σ _ m.tier
      (goes _ _ _ tiers.Mid n.node.me σ _ (frame_in (service_by p) n.node.faults k.0 n.node.me σ from message m.few m.node service k.1 f))

  pub leading : (σ : Mid) → IsMidNode n → IsInRange p n σ → IsMidMove p n σ (leads n.node.faults p n.node.me σ)
  leading σ m k = deep k.0 σ _ m.tier (goes _ _ _ tiers.Mid n.node.me σ _ (leads_in (service_by p) n.node.faults k.0 n.node.me σ m.few m.node service k.1))

  pub offering : (σ : Mid) → IsMidNode n → IsInRange p n σ → IsMidMove p n σ (offers n.node.faults p n.node.me σ)
  offering σ m k = deep k.0 σ _ m.tier (goes _ _ _ tiers.Mid n.node.me σ _ (offers_in (service_by p) n.node.faults k.0 n.node.me σ m.few m.node service k.1))

  pub retries : (σ : Mid) → IsMidNode n → IsInRange p n σ → IsMidMove p n σ (retry n.node.faults n.node.me σ)
  retries σ m k = deep k.0 σ _ m.tier (goes _ _ _ tiers.Mid n.node.me σ _ (retry_in (service_by p) n.node.faults k.0 n.node.me σ m.few m.node k.1))

  pub working : (σ : Mid) (schedule : List ℕ) → IsMidNode n → IsInRange p n σ → IsMidMove p n σ (work n.node.faults p n.node.me σ schedule)
  working σ schedule m k = deep k.0 σ _ m.tier
      (goes _ _ _ tiers.Mid n.node.me σ _ (work_in (service_by p) n.node.faults k.0 n.node.me σ schedule m.few m.node service k.1))

  pub restored : (rs : List (List Fact)) → IsMidNode n → Fit n.node.tier rs
      → IsRestored (IsInRange p n) log_of (open_after_all 0 (all_facts rs)) (recovered n.node.faults p n.depth n.node.me (newest rs))
  restored rs m fit = record {
    state = (n.depth, recovered_in (service_by p) n.node.faults n.depth n.node.me rs m.depth service (subst (λ z. Fit z rs) m.tier fit));
    opens = recovered_opens p n.node.faults n.depth n.node.me rs;
  }
