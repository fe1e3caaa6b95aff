-- A middle node beside its log: its tables, claims and answers come from the past.
use Rattle.std.proofs.Common.{◌≡◌, ℕ, true, Some}
use Rattle.aeg_base.specs.declared.names.Tier.{Tier}
use Rattle.aeg_base.specs.declared.names.Tier.TheVariants.{Mid as MidTier}
use Rattle.log_values.specs.declared.entry.Entry.{Entry}
use Rattle.round_model.specs.After.{after}
use Rattle.round_model.proofs.HeldLaws.{InOrder}
use Rattle.round_model.specs.Held.{HeldState, held_code, is_noted}
use Rattle.round_model.specs.Numbered.{rises}
use Rattle.round_model.specs.Tables.{pending_of}
use Rattle.round_model.specs.declared.claim.Claim.{Claim}
use Rattle.round_model.specs.Verdicts.{Vote, claim_of, claims_in}
use Rattle.run_model.specs.World.{Config}
use Rattle.tier_laws.proofs.MidNodes.CodesOfFacts.{code_of}
use Rattle.tier_laws.proofs.Server.GrowingHistory.{TablesOk}
use Rattle.tier_laws.proofs.Invariant.Past.{Past, holds}
use Rattle.tier_laws.proofs.Invariant.VerdictsHaveCauses.{DidRun}
use Rattle.tier_laws.proofs.Invariant.ValuesAreGood.{Submitted}
use Rattle.tier_model.specs.Mid.{Mid}

-- the answers are those that x wrote down, and who told that it holds one wrote it down
pub record HeldOk {B : Type 0} (c : Config B) (P : Past B) (x : ℕ) (H : HeldState) : Type 0 where
  pub faults : H.faults ≡ c.u
  pub me : H.me ≡ x
  pub in_order : InOrder H
  pub codes : (t : Tier) (n : ℕ) → held_code H t n ≡ code_of (P.codes MidTier x) t n
  pub noted : (y : ℕ) (t : Tier) (n : ℕ) → is_noted H y t n ≡ true → holds P t n y ≡ true

-- y's claim in a round
abbrev pub vote_by : ℕ → ℕ → Claim → Vote
vote_by r y q = record { round = r; from = y; token = q.token; order = q.order }

pub record MidOther {B : Type 0} (c : Config B) (P : Past B) (x : ℕ) (σ : Mid) : Type 0 where
  pub is_after : after c.service.programs c.depth P.log P.server.served σ.applied ≡ Some σ.tables
  pub tables : TablesOk P.server σ.tables
  pub pending : (y : ℕ) (e : Entry) → pending_of σ.pending y ≡ Some e → Submitted P e
  pub tally : (r y : ℕ) (q : Claim) → claim_of (claims_in σ.tally r) y ≡ Some q → DidRun P (vote_by r y q)
  pub in_order : rises 0 σ.tally ≡ true
  pub spec : (v : Vote) → σ.spec ≡ Some v → DidRun P v
  pub held : HeldOk c P x σ.held
