-- What facts that fit leave of a node's log.
use Rattle.std.proofs.Common.{◌≡◌, ◌⊎◌, inl, inr, ℕ, ◌+◌, ◌≤◌, true, List, [], ◌∷◌, ◌++◌, length, Some, refl, sym, ap, ◌∙◌, subst, arith, eq-eqb}
use Rattle.std.specs.Prelude.{map, slice_get, ◌==◌, ◌&&◌}
use Rattle.std.specs.List.{AllByRecursion}
use Rattle.std.proofs.lemmas.Bool.{cond_both, eqb-true, and_parts, and_from}
use Rattle.aeg_base.specs.Ballots.{no_ballot, is_below}
use Rattle.aeg_base.specs.declared.names.Ballot.{Ballot}
use Rattle.aeg_base.specs.declared.names.Tier.{Tier}
use Rattle.aeg_base.specs.declared.limits.TheConstants.{POSITIONS}
use Rattle.log_model.specs.declared.fact.Fact.{Fact as LogFact}
use Rattle.log_model.specs.declared.fact.Fact.TheVariants as logs
use Rattle.log_model.specs.Recover.{onto, newest_onto, newest, higher, promised_in, learned_in, accepted_in, recover}
use Rattle.log_model.specs.Ranges.{IsVoteIn, IsFactIn, IsLogIn}
use Rattle.log_model.proofs.Ranged.{get_push, length_push}
use Rattle.log_values.specs.declared.any_value.AnyValue.{AnyValue}
use Rattle.log_values.specs.declared.fact.Fact.{Fact}
use Rattle.log_values.specs.declared.fact.Fact.TheVariants.{Promised, Accepted, Learned, Held}
use Rattle.log_values.specs.Fields.{FitsBallot}
use Rattle.frames.specs.LogMessages.{is_carried, IsCarried}
use Rattle.tier_model.specs.Moves.{as_fact, log_facts}
use Rattle.tier_model.proofs.Facts.{log_facts-onto}
use Rattle.paxos_log.specs.TierLog.{IsNext, AreInOrder, newest_first}
use Rattle.fact_journal.specs.Fitting.{open_after_all, FactsFit, all_facts}

-- A Learned fact that fits stands at the first open position, with a value that can stand there.
learned_at : (tier : Tier) (first p : ℕ) (v : AnyValue) → ((p == first) && is_carried tier p v) ≡ true → (p ≡ first) × (is_carried tier p v ≡ true)
learned_at tier first p v e =
    let both = and_parts (p == first) (is_carried tier p v) e in
    (eqb-true p first both.0, both.1)

pub in_order : (tier : Tier) (first : ℕ) (facts : List Fact) → FactsFit tier first facts → AreInOrder first (log_facts facts)
in_order tier first [] k = tt
in_order tier first (Promised b ∷ fs) k = (tt, in_order tier first fs k.1)
in_order tier first (Accepted p b v ∷ fs) k = (tt, in_order tier first fs k.1)
in_order tier first (Learned p v ∷ fs) k = (((learned_at tier first p v k.0.1).0, k.0.0.0), in_order tier (first + 1) fs k.1)
in_order tier first (Held t number code ∷ fs) k = in_order tier first fs k.1

pub in_range : (tier : Tier) (first : ℕ) (facts : List Fact) → FactsFit tier first facts
    → AllByRecursion (IsFactIn (IsCarried tier) FitsBallot) (log_facts facts)
in_range tier first [] k = tt
in_range tier first (Promised b ∷ fs) k = (k.0.0, in_range tier first fs k.1)
in_range tier first (Accepted p b v ∷ fs) k = ((k.0.0.0, (k.0.0.1.0, (k.0.0.1.1, k.0.1))), in_range tier first fs k.1)
in_range tier first (Learned p v ∷ fs) k = ((k.0.0.0, (k.0.0.1, (learned_at tier first p v k.0.1).1)), in_range tier (first + 1) fs k.1)
in_range tier first (Held t number code ∷ fs) k = in_range tier first fs k.1

-- facts of the log that are in order and in range, as a turn makes them
pub from_log : (tier : Tier) (first : ℕ) (facts : List (LogFact AnyValue))
    → AllByRecursion (IsFactIn (IsCarried tier) FitsBallot) facts → AreInOrder first facts → FactsFit tier first (map as_fact facts)
from_log tier first [] i n = tt
from_log tier first (logs.Promised b ∷ fs) i n = ((i.0, refl), from_log tier first fs i.1 n.1)
from_log tier first (logs.Accepted p b v ∷ fs) i n = (((i.0.0, (i.0.1.0, i.0.1.1.0)), i.0.1.1.1), from_log tier first fs i.1 n.1)
from_log tier first (logs.Learned p v ∷ fs) i n = (
  (
    (i.0.0, i.0.1.0),
    and_from (p == first) (is_carried tier p v) (eq-eqb p first n.0.0) i.0.1.1,
  ),
  from_log tier (first + 1) fs i.1 n.1,
)

-- ---- from the newest fact on

onto_then : {F : Type 0} (xs ys older : List F) → onto (xs ++ ys) older ≡ onto ys (onto xs older)
onto_then [] ys older = refl
onto_then (x ∷ xs) ys older = onto_then xs ys (x ∷ older)

newest_is : (rs : List (List Fact)) (older : List Fact) → newest_onto rs older ≡ onto (all_facts rs) older
newest_is [] older = refl
newest_is (r ∷ rs) older = newest_is rs (onto r older) ∙ sym (onto_then r (all_facts rs) older)

pub newest_facts : (rs : List (List Fact)) → newest rs ≡ onto (all_facts rs) []
newest_facts rs = newest_is rs []

pub newest_log : (rs : List (List Fact)) → log_facts (newest rs) ≡ newest_first (log_facts (all_facts rs))
newest_log rs = ap log_facts (newest_is rs []) ∙ log_facts-onto (all_facts rs) []

-- as many positions are learned as there are Learned facts
count_onto : (fs : List Fact) (older : List (LogFact AnyValue)) → open_after_all (length (learned_in older)) fs
    ≡ length (learned_in (onto (log_facts fs) older))
count_onto [] older = refl
count_onto (Promised b ∷ fs) older = count_onto fs (logs.Promised b ∷ older)
count_onto (Accepted p b v ∷ fs) older = count_onto fs (logs.Accepted p b v ∷ older)
count_onto (Learned p v ∷ fs) older =
    let e : length (learned_in older) + 1 ≡ length (learned_in older ++ v ∷ []) = omega (arith, length_push (learned_in older) v) in
    ap (λ (n : ℕ). open_after_all n fs) e ∙ count_onto fs (logs.Learned p v ∷ older)
count_onto (Held t number code ∷ fs) older = count_onto fs older

pub open_is : (facts : List Fact) → open_after_all 0 facts ≡ length (learned_in (newest_first (log_facts facts)))
open_is facts = count_onto facts []

-- ---- what is restored is in range

module _ {V : Type 0} (Q : ℕ → V → Type 0) (F : Ballot → Type 0) where
  -- what older facts leave
  record Left (older : List (LogFact V)) : Type 0 where
    pub promised : (promised_in older ≡ no_ballot) ⊎ F (promised_in older)
    pub within : length (learned_in older) ≤ POSITIONS
    pub accepted : (p : ℕ) → IsVoteIn Q F p (accepted_in p older)
    pub learned : (p : ℕ) (v : V) → slice_get (learned_in older) p ≡ Some v → Q p v

  raised : (b c : Ballot) → (b ≡ no_ballot) ⊎ F b → F c → (higher b c ≡ no_ballot) ⊎ F (higher b c)
  raised b c p q = cond_both (is_below b c) c b (λ z. (z ≡ no_ballot) ⊎ F z) (λ e. inr q) (λ e. p)

  one_more : (older : List (LogFact V)) (f : LogFact V) → Left older → IsFactIn Q F f → IsNext (length (learned_in older)) f → Left (f ∷ older)
  one_more older (logs.Promised b) k i n = record {
    promised = raised (promised_in older) b k.promised i;
    within = k.within;
    accepted = k.accepted;
    learned = k.learned;
  }
  one_more older (logs.Accepted p b v) k i n = record {
    promised = raised (promised_in older) b k.promised i.1.0;
    within = k.within;
    accepted = λ q. cond_both (p == q) (Some (b, v)) (accepted_in q older) (IsVoteIn Q F q)
        (λ e. subst (λ z. IsVoteIn Q F z (Some (b, v))) (eqb-true p q e) (i.0, (i.1.0, i.1.1))) (λ e. k.accepted q);
    learned = k.learned;
  }
  one_more older (logs.Learned p v) k i n = record {
    promised = k.promised;
    within = omega (arith, length_push (learned_in older) v, n.0, n.1);
    accepted = k.accepted;
    learned = λ q w e. pick q w (get_push (learned_in older) v q w e);
  }
    where
      pick : (q : ℕ) (w : V) → (slice_get (learned_in older) q ≡ Some w) ⊎ ((q ≡ length (learned_in older)) × (v ≡ w)) → Q q w
      pick q w (inl e) = k.learned q w e
      pick q w (inr e) = subst (λ z. Q z w) (n.0 ∙ sym e.0) (subst (Q p) e.1 i.1)

  all_more_left : (fs older : List (LogFact V)) → Left older → AllByRecursion (IsFactIn Q F) fs
      → AreInOrder (length (learned_in older)) fs → Left (onto fs older)
  all_more_left [] older k i n = k
  all_more_left (logs.Promised b ∷ fs) older k i n = all_more_left fs (logs.Promised b ∷ older) (one_more older (logs.Promised b) k i.0 n.0) i.1 n.1
  all_more_left (logs.Accepted p b v ∷ fs) older k i n = all_more_left fs (logs.Accepted p b v ∷ older) (one_more older (logs.Accepted p b v) k i.0 n.0) i.1 n.1
  all_more_left (logs.Learned p v ∷ fs) older k i n =
      let e : length (learned_in older) + 1 ≡ length (learned_in older ++ v ∷ []) = omega (arith, length_push (learned_in older) v) in
      all_more_left fs (logs.Learned p v ∷ older) (one_more older (logs.Learned p v) k i.0 n.0) i.1 (subst (λ (m : ℕ). AreInOrder m fs) e n.1)

  none_left : Left []
  none_left = record { promised = inl refl; within = omega arith; accepted = λ p. tt; learned = λ p v e. absurd cc }

  pub restored_in : (u : ℕ) (fs : List (LogFact V)) → AllByRecursion (IsFactIn Q F) fs → AreInOrder 0 fs → IsLogIn Q F (recover u (newest_first fs))
  restored_in u fs i n =
      let k = all_more_left fs [] none_left i n in
      record { promised = k.promised; within = k.within; accepted = k.accepted (length (learned_in (newest_first fs))); learned = k.learned; leader = tt }
