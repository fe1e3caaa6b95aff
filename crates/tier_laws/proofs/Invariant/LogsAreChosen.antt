-- One tier's log: what is voted for is good, what stands in the chosen log meets the condition, and the other way round.
use Rattle.std.proofs.Common.{◌≡◌, ℕ, ◌+◌, ◌*◌, ◌<◌, List, length, Some}
use Rattle.std.specs.Prelude.{slice_get, ◌⊎◌}
use Rattle.aeg_base.specs.declared.names.Ballot.{Ballot}
use Rattle.log_model.proofs.History.{DidVote}
use Rattle.log_model.proofs.Invariant.{History}
use Rattle.log_model.specs.Chosen.{Meets}
use Rattle.log_model.specs.World.{Packet as LogPacket}
use Rattle.log_model.specs.declared.fact.Fact.{Fact as LogFact}

pub record LogPart {V : Type 0} (u : ℕ) (H : ℕ → List (LogFact V)) (soup : List (LogPacket V)) (L : List V) (G : ℕ → V → Type 0) : Type 0 where
  pub history : History u H soup
  pub good : (x : ℕ) → x < 2 * u + 1 → (p : ℕ) (b : Ballot) (v : V) → DidVote (H x) p b v → G p v
  pub sound : (p : ℕ) (v : V) → slice_get L p ≡ Some v → Meets u soup p v

pub record Complete {V : Type 0} (u : ℕ) (soup : List (LogPacket V)) (L : List V) : Type 0 where
  pub at : (p : ℕ) (v : V) → Meets u soup p v → slice_get L p ≡ Some v

-- but for the next position
pub record Nearly {V : Type 0} (u : ℕ) (soup : List (LogPacket V)) (L : List V) : Type 0 where
  pub at : (p : ℕ) (v : V) → Meets u soup p v → (slice_get L p ≡ Some v) ⊎ (p ≡ length L)
