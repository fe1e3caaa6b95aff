-- Values and ballots in range: a condition on each value at its position, and one on each ballot.
use Rattle.std.specs.Prelude.{◌≡◌, ℕ, ◌+◌, ◌*◌, ◌<◌, ◌≤◌, ◌⊎◌, Option, Some, None, slice_get, IfSome}
use Rattle.std.specs.List.{AllByRecursion}
use Rattle.aeg_base.specs.Ballots.{no_ballot}
use Rattle.aeg_base.specs.declared.names.Ballot.{Ballot}
use Rattle.aeg_base.specs.declared.limits.TheConstants.{POSITIONS}
use Rattle.log_model.specs.declared.fact.Fact.{Fact}
use Rattle.log_model.specs.declared.fact.Fact.TheVariants.{Promised, Accepted as Voted, Learned}
use Rattle.log_model.specs.declared.message.PaxMsg.{PaxMsg}
use Rattle.log_model.specs.declared.message.PaxMsg.TheVariants.{Prepare, Promise, Accept, Accepted, Ask, Learn, Behind}
use Rattle.log_model.specs.Log.{Leader, LogState, Turn, open_at}
use Rattle.log_model.specs.Rows.{last_counter}

-- what was accepted at p, where something was
abbrev pub IsVoteIn : {V : Type 0} → (ℕ → V → Type 0) → (Ballot → Type 0) → ℕ → Option (Ballot × V) → Type 0
IsVoteIn Q F p None = Unit {0}
IsVoteIn Q F p (Some a) = (p < POSITIONS) × (F a.0 × Q p a.1)

-- the values of a message stand at positions of the log, and none of its positions is past the first one behind the log
abbrev pub IsMessageIn : {V : Type 0} → (ℕ → V → Type 0) → (Ballot → Type 0) → PaxMsg V → Type 0
IsMessageIn Q F (Prepare b p) = F b × (p ≤ POSITIONS)
IsMessageIn Q F (Promise b p a) = F b × ((p ≤ POSITIONS) × IsVoteIn Q F p a)
IsMessageIn Q F (Accept b p v) = F b × ((p < POSITIONS) × Q p v)
IsMessageIn Q F (Accepted b p v) = F b × ((p < POSITIONS) × Q p v)
IsMessageIn Q F (Ask p) = p ≤ POSITIONS
IsMessageIn Q F (Learn p v) = (p < POSITIONS) × Q p v
IsMessageIn Q F (Behind p) = p ≤ POSITIONS

abbrev pub IsFactIn : {V : Type 0} → (ℕ → V → Type 0) → (Ballot → Type 0) → Fact V → Type 0
IsFactIn Q F (Promised b) = F b
IsFactIn Q F (Voted p b v) = (p < POSITIONS) × (F b × Q p v)
IsFactIn Q F (Learned p v) = (p < POSITIONS) × Q p v

-- the ballot that it leads with, and the best report at the position that was open as it began
pub record IsLeaderIn {V : Type 0} (Q : ℕ → V → Type 0) (F : Ballot → Type 0) (l : Leader V) : Type 0 where
  pub ballot : F l.ballot
  pub best : IsVoteIn Q F l.led_at l.best

-- nothing is promised yet, or a ballot in range; each value stands at its position
pub record IsLogIn {V : Type 0} (Q : ℕ → V → Type 0) (F : Ballot → Type 0) (log : LogState V) : Type 0 where
  pub promised : (log.promised ≡ no_ballot) ⊎ F log.promised
  pub within : open_at log ≤ POSITIONS
  pub accepted : IsVoteIn Q F (open_at log) log.accepted
  pub learned : (p : ℕ) (v : V) → slice_get log.learned p ≡ Some v → Q p v
  pub leader : IfSome log.leader (IsLeaderIn Q F)

-- a message to a node of the tier of 2u+1
abbrev pub IsSendIn : {V : Type 0} → ℕ → (ℕ → V → Type 0) → (Ballot → Type 0) → ℕ × PaxMsg V → Type 0
IsSendIn u Q F send = (send.0 < 2 * u + 1) × IsMessageIn Q F send.1

-- the state, the facts and the messages of a turn
pub record IsTurnIn {V : Type 0} (u : ℕ) (Q : ℕ → V → Type 0) (F : Ballot → Type 0) (t : Turn V) : Type 0 where
  pub state : IsLogIn Q F t.state
  pub facts : AllByRecursion (IsFactIn Q F) t.facts
  pub sends : AllByRecursion (IsSendIn u Q F) t.sends

-- x may raise any ballot that is in range, or none yet, and isn't the last one
abbrev pub MayRaise : (Ballot → Type 0) → ℕ → Type 0
MayRaise F x = (b : Ballot) → (b ≡ no_ballot) ⊎ F b → (b.counter ≡ last_counter → ⊥) → F (record { counter = b.counter + 1; node = x })

-- the own value, where there is one, can stand at p
abbrev pub IsOwnIn : {V : Type 0} → (ℕ → V → Type 0) → ℕ → Option V → Type 0
IsOwnIn Q p own = IfSome own (Q p)
