-- Snapshots of what a node wrote down: a few facts from which a restart recovers what it recovers from all of them. A list
-- of facts has the newest one in front, and a record the oldest one.
use Rattle.std.specs.Prelude.{◌≡◌, ℕ, suc, ◌+◌, ◌≤◌, List, [], ◌∷◌, ◌++◌, length, map, Option, Some, None, if◌then◌else◌}
use Rattle.aeg_base.specs.Ballots.{no_ballot, same_ballot}
use Rattle.aeg_base.specs.declared.names.Ballot.{Ballot}
use Rattle.aeg_base.specs.declared.names.Tier.{Tier}
use Rattle.aeg_base.specs.declared.names.Tier.TheVariants as tiers
use Rattle.log_model.specs.Log.{LogState, open_at}
use Rattle.log_model.specs.Recover.{onto, promised_in, learned_in, accepted_in, recover}
use Rattle.log_model.specs.declared.fact.Fact.{Fact as LogFact}
use Rattle.log_model.specs.declared.fact.Fact.TheVariants as logs
use Rattle.log_values.specs.declared.fact.Fact.{Fact}
use Rattle.log_values.specs.declared.fact.Fact.TheVariants.{Held}
use Rattle.round_model.specs.Held.{HeldState, held_code}
use Rattle.round_model.specs.Service.{Service}
use Rattle.round_model.specs.declared.answer.Answer.{Answer}
use Rattle.tier_model.specs.Kinds.{kind}
use Rattle.tier_model.specs.Moves.{as_fact, log_facts, held_in}

-- RECORDS OF A STATE

-- these values are learned, from position p on
abbrev pub learnings : {V : Type 0} → ℕ → List V → List (LogFact V)
learnings p [] = []
learnings p (v ∷ vs) = logs.Learned p v ∷ learnings (suc p) vs

-- what was last accepted at position p, where there is such
abbrev pub acceptance : {V : Type 0} → ℕ → Option (Ballot × V) → List (LogFact V)
acceptance p None = []
acceptance p (Some a) = logs.Accepted p a.0 a.1 ∷ []

-- the ballot is promised, where it is one
abbrev pub promise : {V : Type 0} → Ballot → List (LogFact V)
promise b = if same_ballot b no_ballot then [] else logs.Promised b ∷ []

-- what the log learned, what it accepted at the first open position, and its promise
abbrev pub log_record : {V : Type 0} → LogState V → List (LogFact V)
log_record log = learnings 0 log.learned ++ (acceptance (open_at log) log.accepted ++ promise log.promised)

abbrev pub holding : Tier → ℕ × Answer → Fact
holding t e = Held t e.0 e.1.code

-- the answers of each tier, by number
abbrev pub held_record : HeldState → List Fact
held_record h = map (holding tiers.Mid) h.answers.mid ++ (map (holding tiers.Inv) h.answers.inv ++ map (holding tiers.Pay) h.answers.pay)

abbrev pub held_count : HeldState → ℕ
held_count h = length h.answers.mid + length h.answers.inv + length h.answers.pay

-- SNAPSHOTS

-- The snapshot as one record: of each call the first answer, the learned values, the last acceptance at the first open
-- position, and the highest ballot. None of these depends on which node of how many reads the facts.
abbrev pub snapshot_record : List Fact → List Fact
snapshot_record F = held_record (held_in 0 0 F) ++ map as_fact (log_record (recover 0 (log_facts F)))

abbrev pub snapshot : List Fact → List Fact
snapshot F = onto (snapshot_record F) []

-- ALIKE

-- What a restart recovers from them is the same, and stays so under newer facts: the promise, the learned values, what was
-- last accepted at each position that isn't learned, and the code of each call.
pub record AreAlike (F G : List Fact) : Type 0 where
  pub promised : promised_in (log_facts F) ≡ promised_in (log_facts G)
  pub learned : learned_in (log_facts F) ≡ learned_in (log_facts G)
  pub accepted : (p : ℕ) → length (learned_in (log_facts F)) ≤ p → accepted_in p (log_facts F) ≡ accepted_in p (log_facts G)
  pub codes : (u x : ℕ) (t : Tier) (n : ℕ) → held_code (held_in u x F) t n ≡ held_code (held_in u x G) t n

-- each node recovers the same state from both, whatever its tier and its service
abbrev pub RecoverSame : (B : Type 0) → List Fact → List Fact → Type 0
RecoverSame B F G = (u x depth : ℕ) (m : Service B) (t : Tier) → (kind u m depth t x).recovered F ≡ (kind u m depth t x).recovered G

-- nothing was accepted ahead of the position that was open then: so many values were learned in older facts
abbrev pub NoneAhead : {V : Type 0} → List (LogFact V) → Type 0
NoneAhead [] = Unit {0}
NoneAhead (logs.Promised b ∷ older) = NoneAhead older
NoneAhead (logs.Accepted p b v ∷ older) = (p ≤ length (learned_in older)) × NoneAhead older
NoneAhead (logs.Learned p v ∷ older) = NoneAhead older

-- each value was learned at the position that was open then
abbrev pub LearnedInOrder : {V : Type 0} → List (LogFact V) → Type 0
LearnedInOrder [] = Unit {0}
LearnedInOrder (logs.Promised b ∷ older) = LearnedInOrder older
LearnedInOrder (logs.Accepted p b v ∷ older) = LearnedInOrder older
LearnedInOrder (logs.Learned p v ∷ older) = (p ≡ length (learned_in older)) × LearnedInOrder older
