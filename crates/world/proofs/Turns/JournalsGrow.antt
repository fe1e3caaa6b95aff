-- What a turn writes stands in the journal behind what the node wrote before, and what such a journal leaves is in range.
use Rattle.std.proofs.Common.{◌≡◌, ℕ, ◌+◌, List, [], ◌∷◌, ◌++◌, map, refl, ap}
use Rattle.std.specs.List.{AllByRecursion}
use Rattle.aeg_base.specs.declared.names.Tier.{Tier}
use Rattle.log_model.specs.declared.fact.Fact.{Fact as LogFact}
use Rattle.log_model.specs.declared.fact.Fact.TheVariants as logs
use Rattle.log_model.specs.Log.{LogState, Turn, open_at}
use Rattle.log_model.specs.Ranges.{IsFactIn, IsLogIn, IsTurnIn}
use Rattle.log_model.specs.Recover.{recover}
use Rattle.log_values.specs.declared.any_value.AnyValue.{AnyValue}
use Rattle.log_values.specs.declared.fact.Fact.{Fact}
use Rattle.log_values.specs.declared.fact.Fact.TheVariants.{Promised, Accepted, Learned, Held}
use Rattle.log_values.specs.Fields.{FitsBallot}
use Rattle.frames.specs.LogMessages.{IsCarried}
use Rattle.tier_model.specs.Moves.{as_fact, log_facts}
use Rattle.paxos_log.specs.TierLog.{AreInOrder, newest_first}
use Rattle.fact_journal.specs.Fitting.{FactsFit, open_after_all}
use Rattle.fact_journal.proofs.Restoring.{in_order, from_log, restored_in}
use Rattle.world.specs.Parts.{CanStand, CanWrite, StandIn}
use Rattle.world.proofs.Turns.FewMessages.{IsFew, IsWritten}
use Rattle.world.proofs.Turns.SentAndWritten.{stand_carried}

-- A TURN'S FACTS

written_in_order : (Q : ℕ → AnyValue → Type 0) (first next : ℕ) (fs : List (LogFact AnyValue)) → IsWritten first next fs
    → AllByRecursion (IsFactIn Q FitsBallot) fs → AreInOrder first fs
written_in_order Q first next [] w k = tt
written_in_order Q first next (logs.Promised b ∷ []) w k = (tt, tt)
written_in_order Q first next (logs.Accepted p b v ∷ []) w k = (tt, tt)
written_in_order Q first next (logs.Learned p v ∷ []) w k = ((w.0, k.0.0), tt)
written_in_order Q first next (logs.Promised b ∷ g ∷ fs) w k = absurd w
written_in_order Q first next (logs.Accepted p b v ∷ g ∷ fs) w k = absurd w
written_in_order Q first next (logs.Learned p v ∷ g ∷ fs) w k = absurd w

-- the log is open then where the facts leave it
pub written_opens : (first next : ℕ) (fs : List (LogFact AnyValue)) → IsWritten first next fs → next ≡ open_after_all first (map as_fact fs)
written_opens first next [] w = w
written_opens first next (logs.Promised b ∷ []) w = w
written_opens first next (logs.Accepted p b v ∷ []) w = w
written_opens first next (logs.Learned p v ∷ []) w = w.1
written_opens first next (logs.Promised b ∷ g ∷ fs) w = absurd w
written_opens first next (logs.Accepted p b v ∷ g ∷ fs) w = absurd w
written_opens first next (logs.Learned p v ∷ g ∷ fs) w = absurd w

facts_carried : (t : Tier) (fs : List (LogFact AnyValue)) → AllByRecursion (IsFactIn (CanStand t) FitsBallot) fs
    → AllByRecursion (IsFactIn (IsCarried t) FitsBallot) fs
facts_carried t [] k = tt
facts_carried t (logs.Promised b ∷ fs) k = (k.0, facts_carried t fs k.1)
facts_carried t (logs.Accepted p b v ∷ fs) k = ((k.0.0, (k.0.1.0, stand_carried t p v k.0.1.1)), facts_carried t fs k.1)
facts_carried t (logs.Learned p v ∷ fs) k = ((k.0.0, stand_carried t p v k.0.1), facts_carried t fs k.1)

facts_can : (t : Tier) (fs : List (LogFact AnyValue)) → AllByRecursion (IsFactIn (CanStand t) FitsBallot) fs → AllByRecursion (CanWrite t) (map as_fact fs)
facts_can t [] k = tt
facts_can t (logs.Promised b ∷ fs) k = (k.0, facts_can t fs k.1)
facts_can t (logs.Accepted p b v ∷ fs) k = ((k.0.1.0, k.0.1.1), facts_can t fs k.1)
facts_can t (logs.Learned p v ∷ fs) k = (k.0.1, facts_can t fs k.1)

pub turn_stands : (u : ℕ) (t : Tier) (log : LogState AnyValue) (turn : Turn AnyValue) → IsFew u log turn
    → IsTurnIn u (CanStand t) FitsBallot turn → StandIn t (open_at log) (map as_fact turn.facts)
turn_stands u t log turn few k = record {
  fit = from_log t (open_at log) turn.facts (facts_carried t turn.facts k.facts)
      (written_in_order (CanStand t) (open_at log) (open_at turn.state) turn.facts few.written k.facts);
  can = facts_can t turn.facts k.facts;
}

pub nothing_stands : (t : Tier) (first : ℕ) → StandIn t first []
nothing_stands t first = record { fit = tt; can = tt }

-- WHAT A RESTART RESTORES

can_in : (t : Tier) (first : ℕ) (facts : List Fact) → FactsFit t first facts → AllByRecursion (CanWrite t) facts
    → AllByRecursion (IsFactIn (CanStand t) FitsBallot) (log_facts facts)
can_in t first [] f k = tt
can_in t first (Promised b ∷ fs) f k = (k.0, can_in t first fs f.1 k.1)
can_in t first (Accepted p b v ∷ fs) f k = ((f.0.0.0, (k.0.0, k.0.1)), can_in t first fs f.1 k.1)
can_in t first (Learned p v ∷ fs) f k = ((f.0.0.0, k.0), can_in t (first + 1) fs f.1 k.1)
can_in t first (Held w number code ∷ fs) f k = absurd k.0

pub restored_stands : (u : ℕ) (t : Tier) (facts : List Fact) → FactsFit t 0 facts → AllByRecursion (CanWrite t) facts
    → IsLogIn (CanStand t) FitsBallot (recover u (newest_first (log_facts facts)))
restored_stands u t facts f k = restored_in (CanStand t) FitsBallot u (log_facts facts) (can_in t 0 facts f k) (in_order t 0 facts f)

-- the facts of the log in two parts
pub log_facts_then : (xs ys : List Fact) → log_facts (xs ++ ys) ≡ log_facts xs ++ log_facts ys
log_facts_then [] ys = refl
log_facts_then (Promised b ∷ xs) ys = ap (λ z. logs.Promised b ∷ z) (log_facts_then xs ys)
log_facts_then (Accepted p b v ∷ xs) ys = ap (λ z. logs.Accepted p b v ∷ z) (log_facts_then xs ys)
log_facts_then (Learned p v ∷ xs) ys = ap (λ z. logs.Learned p v ∷ z) (log_facts_then xs ys)
log_facts_then (Held t number code ∷ xs) ys = log_facts_then xs ys
