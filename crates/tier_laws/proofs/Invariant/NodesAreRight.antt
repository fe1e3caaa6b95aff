-- A node: its log is that of what it wrote, and what it is beside comes from the past, as does each list that its disk may
-- stand for.
use Rattle.std.proofs.Common.{◌≡◌, ℕ, List, Some, ◌++◌}
use Rattle.std.specs.Prelude.{slice_get}
use Rattle.aeg_base.specs.declared.names.Ballot.{Ballot}
use Rattle.aeg_base.specs.declared.names.Tier.{Tier}
use Rattle.aeg_base.specs.declared.names.Tier.TheVariants.{Mid as MidTier, Inv, Pay}
use Rattle.log_model.proofs.History.{DidVote}
use Rattle.log_model.proofs.Invariant.{StateOk, TurnOk}
use Rattle.log_model.specs.Log.{Turn}
use Rattle.log_model.specs.Nodes.{Mode, Node}
use Rattle.log_model.specs.Nodes.Mode.{Down, Gone, Up}
use Rattle.log_model.specs.Recover.{newest, onto}
use Rattle.log_model.specs.World.{Packet as LogPacket}
use Rattle.log_model.specs.declared.fact.Fact.{Fact as LogFact}
use Rattle.log_values.specs.declared.any_value.AnyValue.{AnyValue}
use Rattle.log_values.specs.declared.fact.Fact.{Fact}
use Rattle.run_model.specs.World.{Config}
use Rattle.tier_laws.proofs.MidNodes.CodesOfFacts.{Code, codes_in}
use Rattle.tier_laws.proofs.Invariant.BackendNodes.{BackOther, Tied}
use Rattle.tier_laws.proofs.Invariant.MiddleNodes.{MidOther}
use Rattle.tier_laws.proofs.Invariant.Past.{Past}
use Rattle.tier_laws.proofs.Invariant.ValuesAreGood.{ValueOk}
use Rattle.tier_model.specs.Back.{Back}
use Rattle.tier_model.specs.Kinds.{State}
use Rattle.run_model.specs.World.{log_at}
use Rattle.tier_model.specs.Moves.{log_facts}

pub record BackBeside {B : Type 0} (c : Config B) (P : Past B) (t : Tier) (σ : Back B) : Type 0 where
  pub other : BackOther c P t σ
  pub tied : Tied (c.service.backend t) σ.log.learned σ

-- what a node is beside its log
abbrev pub Beside : {B : Type 0} → Config B → Past B → (t : Tier) → ℕ → State B t → Type 0
Beside c P MidTier x σ = MidOther c P x σ
Beside c P Inv x σ = BackBeside c P Inv σ
Beside c P Pay x σ = BackBeside c P Pay σ

-- the records that a disk may stand for besides, since it failed: those of a turn that would have been right
pub record Pending {B : Type 0} (c : Config B) (P : Past B) (t : Tier) (h : ℕ → List (LogFact AnyValue))
    (soup : List (LogPacket AnyValue)) (x : ℕ) (R : List (List Fact)) : Type 0 where
  pub turn : Turn AnyValue
  pub codes : List Code
  pub is_log : log_facts (newest R) ≡ onto turn.facts (h x)
  pub is_held : codes_in (newest R) ≡ P.codes t x ++ codes
  pub ok : TurnOk c.u h soup x turn
  pub good : (p : ℕ) (b : Ballot) (v : AnyValue) → DidVote (onto turn.facts (h x)) p b v → ValueOk c P t p v
  pub right : (i : ℕ) (q : Code) → slice_get codes i ≡ Some q → P.server.served q.tier q.num ≡ Some q.code

pub record UpOk {B : Type 0} (c : Config B) (P : Past B) (t : Tier) (h : ℕ → List (LogFact AnyValue))
    (soup : List (LogPacket AnyValue)) (x : ℕ) (R : List (List Fact)) (σ : State B t) : Type 0 where
  pub is_log : log_facts (newest R) ≡ h x
  pub is_held : codes_in (newest R) ≡ P.codes t x
  pub log : StateOk c.u h (h x) soup x (log_at c t σ)
  pub beside : Beside c P t x σ

pub record DownOk {B : Type 0} (c : Config B) (P : Past B) (t : Tier) (h : ℕ → List (LogFact AnyValue))
    (soup : List (LogPacket AnyValue)) (x : ℕ) (R : List (List Fact)) (others : List (List (List Fact))) : Type 0 where
  pub is_log : log_facts (newest R) ≡ h x
  pub is_held : codes_in (newest R) ≡ P.codes t x
  pub pending : (n : ℕ) (Q : List (List Fact)) → slice_get others n ≡ Some Q → Pending c P t h soup x Q

abbrev pub NodeOk : {B : Type 0} → Config B → Past B → (t : Tier) → (ℕ → List (LogFact AnyValue))
    → List (LogPacket AnyValue) → ℕ → Node (State B t) Fact → Mode (State B t) → Type 0
NodeOk c P t h soup x node (Up σ) = UpOk c P t h soup x node.records σ
NodeOk c P t h soup x node Down = DownOk c P t h soup x node.records node.others
NodeOk c P t h soup x node Gone = Unit {0}
