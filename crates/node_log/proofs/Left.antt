-- The log that the facts of a node's journal leave.
use Rattle.std.proofs.Common.{◌≡◌, ℕ, List, [], ◌∷◌, ◌++◌, refl, sym, ap, ◌∙◌, subst, Result, Ok, Err}
use Rattle.std.specs.Prelude.{IfOk}
use Rattle.aeg_base.specs.declared.names.Tier.{Tier}
use Rattle.fact_journal.specs.Fitting.{FactsFit}
use Rattle.fact_journal.proofs.Restoring.{in_order, in_range, restored_in}
use Rattle.log_model.specs.declared.fact.Fact.{Fact as LogFact}
use Rattle.log_model.specs.declared.fact.Fact.TheVariants as logs
use Rattle.log_model.specs.Ranges.{IsLogIn}
use Rattle.log_model.specs.Recover.{recover}
use Rattle.log_values.specs.declared.any_value.AnyValue.{AnyValue}
use Rattle.log_values.specs.declared.fact.Fact.{Fact}
use Rattle.log_values.specs.declared.fact.Fact.TheVariants.{Promised, Accepted, Learned, Held}
use Rattle.log_values.specs.Fields.{FitsBallot}
use Rattle.frames.specs.LogMessages.{IsCarried}
use Rattle.paxos_log.specs.TierLog.{NodeLog, AreInOrder, new_log, newest_first, with_state}
use Rattle.tier_model.specs.Moves.{log_facts}
use Rattle.tier_model.proofs.Facts.{log_facts-onto}
use Rattle.node_log.specs.LogNodes.{IsOwnLog}
use Rattle.node_log.specs.Restarting.{restored_log}

-- the facts of the log in two parts
pub log_facts_then : (xs ys : List Fact) → log_facts (xs ++ ys) ≡ log_facts xs ++ log_facts ys
log_facts_then [] ys = refl
log_facts_then (Promised b ∷ xs) ys = ap (λ z. logs.Promised b ∷ z) (log_facts_then xs ys)
log_facts_then (Accepted p b v ∷ xs) ys = ap (λ z. logs.Accepted p b v ∷ z) (log_facts_then xs ys)
log_facts_then (Learned p v ∷ xs) ys = ap (λ z. logs.Learned p v ∷ z) (log_facts_then xs ys)
log_facts_then (Held t number code ∷ xs) ys = log_facts_then xs ys

pub ordered : (t : Tier) (facts : List Fact) (logs : List (LogFact AnyValue)) → logs ≡ log_facts facts → FactsFit t 0 facts → AreInOrder 0 logs
ordered t facts logs e fit = subst (AreInOrder 0) (sym e) (in_order t 0 facts fit)

-- it is the one that the definition leaves, which takes the newest fact first
pub restored_is : {E : Type 0} (u x : ℕ) (facts : List Fact) (logs : List (LogFact AnyValue)) (r : Result (NodeLog AnyValue) E) → logs ≡ log_facts facts
    → IfOk r (λ log. log ≡ with_state (new_log u x) (recover u (newest_first logs))) → IfOk r (λ log. log ≡ restored_log u x facts)
restored_is u x facts logs (Ok log) e f = f ∙ ap (λ z. with_state (new_log u x) (recover u (newest_first z))) e
    ∙ ap (λ z. with_state (new_log u x) (recover u z)) (sym (log_facts-onto facts []))
restored_is u x facts logs (Err error) e f = tt

-- and the node's own, in range
pub restored_own : {E : Type 0} (u : ℕ) (t : Tier) (x : ℕ) (facts : List Fact) (r : Result (NodeLog AnyValue) E) → FactsFit t 0 facts
    → IfOk r (λ log. log ≡ restored_log u x facts) → IfOk r (IsOwnLog u t x)
restored_own u t x facts (Ok log) fit e = subst (IsOwnLog u t x) (sym e) (record { faults = refl; me = refl; range = range })
  where
    range : IsLogIn (IsCarried t) FitsBallot (restored_log u x facts).state
    range = subst (λ z. IsLogIn (IsCarried t) FitsBallot (recover u z)) (sym (log_facts-onto facts []))
        (restored_in (IsCarried t) FitsBallot u (log_facts facts) (in_range t 0 facts fit) (in_order t 0 facts fit))
restored_own u t x facts (Err error) fit e = tt
