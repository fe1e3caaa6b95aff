-- The outcome of a job has a spelling, so that its token is read as that outcome.
use Rattle.std.proofs.Common.{◌≡◌, ℕ, zero, suc, ◌*◌, ◌≤◌, Bool, true, false, cond, List, [], ◌∷◌, length, map, refl, sym, ap, ◌∙◌, subst, Some, arith, lit≤}
use Rattle.std.specs.Prelude.{slice_get, T, ◌==◌, ◌||◌}
use Rattle.std.proofs.lemmas.Bool.{eq-eqb, eqb-true}
use Rattle.std.proofs.lemmas.Bool.Decides.{nat_tests}
use Rattle.std.proofs.lemmas.List.{append-nil, length-map}
use Rattle.std.specs.List.{AllByRecursion}
use Rattle.std.specs.Ordering.{is_lt}
use Rattle.std.specs.FinMap.Entries.{is_sorted, below_all}
use Rattle.aeg_base.specs.Store.{Store, key_cmp, same_key, value_at, pairs_of}
use Rattle.aeg_base.specs.declared.names.Key.{Key}
use Rattle.aeg_base.proofs.NumberLaws.{first, second}
use Rattle.svc_api.specs.Plan.{IsKey, IsEnding}
use Rattle.svc_api.specs.Segment.{Segment}
use Rattle.svc_api.specs.declared.outcome.Outcome.{Outcome}
use Rattle.exec_model.specs.declared.job.Seg.{Seg}
use Rattle.exec_model.specs.Jobs.{plan_at, AreProper}
use Rattle.aeg_base.specs.Changes.{changed_among, changes}
use Rattle.exec_model.specs.Outcomes as outcomes
use Rattle.log_values.specs.Outcomes.{outcome, outcome_at, is_key_below, FitsPair, FitsOutcome}
use Rattle.log_values.proofs.Rising.{below_is, rises_sorted}
use Rattle.log_values.specs.Reading.{whole}
use Rattle.log_values.proofs.OutcomeGrammar.{outcome_grammar}
use Rattle.aeg_wire.specs.Fields.{Read}
use Rattle.round_model.specs.Lists.{tabulate}
use Rattle.round_model.specs.Service.{Programs, segment, serial, serial_end, is_order, finish}
use Rattle.tier_laws.specs.Said.{IsStore, IsJob}
use Rattle.aeg_base.proofs.ChangeLaws.{all_among, key_parts, same_itself, sorted_changes}
use Rattle.svc_api.proofs.Pigeons.{has, IsOnce, Tells, no_longer}
use Rattle.svc_api.proofs.Orders.{order_short}
use Rattle.tier_laws.proofs.Services.Serial.{Agrees, segment_is, serial_is}
use Rattle.tier_laws.proofs.Services.Stores.{AreBounded, bounded, one_store_in, one_end_in, serial_in, all_wrote, few_keys, kept_value}
use Rattle.tier_laws.proofs.Lists.ItemsByIndex.{length-tabulate}

-- THEY ARE KEYS OF STORES, WHOSE VALUES DIFFER

abbrev Changed : Store → Store → Key × ℕ → Type 0
Changed s t p = FitsPair p × ((value_at s p.0 == value_at t p.0) ≡ false)

changed_key : (s t : Store) (k : Key) → IsStore s → IsStore t → (value_at s k == value_at t k) ≡ false → IsKey k
changed_key s t k a b d = at (value_at s k == 0) refl
  where
    at : (c : Bool) → (value_at s k == 0) ≡ c → IsKey k
    at false e = a.keys k (λ z. let f : (value_at s k == 0) ≡ true = eq-eqb (value_at s k) 0 z in cc)
    at true e = b.keys k (λ z. let f : (value_at s k == value_at t k) ≡ true = eq-eqb (value_at s k) (value_at t k) (eqb-true (value_at s k) 0 e ∙ sym z) in cc)

changed_at : (s t : Store) → IsStore s → IsStore t → (k : Key) → (value_at s k == value_at t k) ≡ false → Changed s t (k, value_at t k)
changed_at s t a b k d = ((changed_key s t k a b d, b.values k), d)

changes_fit : (s t : Store) → IsStore s → IsStore t → AllByRecursion (Changed s t) (changes s t)
changes_fit s t a b =
    all_among (Changed s t) s t (changed_at s t a b) (pairs_of t) (changed_among s t (pairs_of s) [])
    (all_among (Changed s t) s t (changed_at s t a b) (pairs_of s) [] tt)

all_fit : (s t : Store) (ps : List (Key × ℕ)) → AllByRecursion (Changed s t) ps → AllByRecursion FitsPair ps
all_fit s t [] a = tt
all_fit s t (p ∷ ps) a = (a.0.0, all_fit s t ps a.1)

-- THEY ARE FEW

key_tells : Tells same_key
key_tells = record { equal = key_parts; itself = same_itself }

keys_of : List (Key × ℕ) → List Key
keys_of ps = map (λ (p : Key × ℕ). p.0) ps

apart_from : (last : Key) (es : List (Key × ℕ)) → T (below_all key_cmp last es) → has same_key (keys_of es) last ≡ false
unfolding keys_of
apart_from last [] b = refl
apart_from last (e ∷ es) b = at (same_key last e.0) refl (apart_from last es (second (is_lt (key_cmp last e.0)) (below_all key_cmp last es) b))
  where
    never : (a b : Key) → is_key_below a b ≡ true → same_key a b ≡ true → ⊥
    never a b f g = grind (arith, nat_tests)

    at : (c : Bool) → same_key last e.0 ≡ c → has same_key (keys_of es) last ≡ false → (c || has same_key (keys_of es) last) ≡ false
    at false f r = r
    at true f r = absurd (never last e.0 (below_is last e.0 (first (is_lt (key_cmp last e.0)) (below_all key_cmp last es) b)) f)

once_keys : (es : List (Key × ℕ)) → T (is_sorted key_cmp es) → IsOnce same_key (keys_of es)
unfolding keys_of
once_keys [] s = tt
once_keys (e ∷ es) s = (
  apart_from e.0 es (first (below_all key_cmp e.0 es) (is_sorted key_cmp es) s),
  once_keys es (second (below_all key_cmp e.0 es) (is_sorted key_cmp es) s),
)

differs_at : (s t : Store) (ps : List (Key × ℕ)) (q : Key) → AllByRecursion (Changed s t) ps
    → has same_key (keys_of ps) q ≡ true → (value_at s q == value_at t q) ≡ false
unfolding keys_of
differs_at s t [] q a h = absurd (cc)
differs_at s t (p ∷ ps) q a h = at (same_key q p.0) refl h (differs_at s t ps q a.1)
  where
    at : (c : Bool) → same_key q p.0 ≡ c → (c || has same_key (keys_of ps) q) ≡ true
        → (has same_key (keys_of ps) q ≡ true → (value_at s q == value_at t q) ≡ false) → (value_at s q == value_at t q) ≡ false
    at true e f rec = subst (λ (k : Key). (value_at s k == value_at t k) ≡ false) (sym (key_parts q p.0 e)) a.0.1
    at false e f rec = rec f

few_changes : (s t : Store) (wrote : List Key) → IsStore s → IsStore t
    → ((q : Key) → has same_key wrote q ≡ false → value_at t q ≡ value_at s q) → length (changes s t) ≤ length wrote
unfolding keys_of
few_changes s t wrote a b kept = omega (
  arith,
  length-map (changes s t) (λ (p : Key × ℕ). p.0),
  no_longer same_key key_tells (keys_of (changes s t)) wrote (once_keys (changes s t) (sorted_changes s t))
      (λ q h. at q (has same_key wrote q) refl (differs_at s t (changes s t) q (changes_fit s t a b) h)),
)
  where
    at : (q : Key) (c : Bool) → has same_key wrote q ≡ c → (value_at s q == value_at t q) ≡ false → c ≡ true
    at q true e d = refl
    at q false e d = absurd (let f : (value_at s q == value_at t q) ≡ true = eq-eqb (value_at s q) (value_at t q) (sym (kept q e)) in cc)

-- THE ENDS

pub serial_end_in : (m : Programs) → Agrees m → (J : List Seg) → AreBounded (plan_at m.begins J)
    → (order : List ℕ) (s : Store) (k : ℕ) → IsStore s → IsEnding (serial_end m J order s k)
serial_end_in m a J b [] s k st = lit≤ tt
serial_end_in m a J b (i ∷ is) s k st = at (i == k)
    (serial_end_in m a J b is (segment m (slice_get J i) s).store k
    (subst (λ (g : Segment). IsStore g.store) (segment_is m a J i s) (one_store_in (plan_at m.begins J) b i s st)))
  where
    at : (c : Bool) → IsEnding (serial_end m J is (segment m (slice_get J i) s).store k)
        → IsEnding (cond c (segment m (slice_get J i) s).ending (serial_end m J is (segment m (slice_get J i) s).store k))
    at true r = subst (λ (g : Segment). IsEnding g.ending) (segment_is m a J i s) (one_end_in (plan_at m.begins J) b i s st)
    at false r = r

all_tabulate : {A : Type 0} (P : A → Type 0) (n : ℕ) (f : ℕ → A) → ((i : ℕ) → P (f i)) → AllByRecursion P (tabulate n f)
all_tabulate P zero f h = tt
all_tabulate P (suc n) f h = (h 0, all_tabulate P n (λ i. f (suc i)) (λ i. h (suc i)))

-- THE OUTCOME

pub store_is_in : (m : Programs) → Agrees m → AreProper m.begins → (J : List Seg) (order : List ℕ) (s : Store) → IsJob J
    → IsStore s → IsStore (serial m J order s)
store_is_in m a p J order s job st = subst IsStore (serial_is m a J order s) (serial_in (plan_at m.begins J) (bounded m.begins p J job) order s st)

pub outcome_fits : (m : Programs) → Agrees m → AreProper m.begins → (J : List Seg) (order : List ℕ) (s : Store)
    → IsJob J → is_order (length J) order ≡ true → IsStore s
    → FitsOutcome (outcomes.outcome s (finish m J order s).store (finish m J order s).ends)
outcome_fits m a p J order s job o st = record {
  count = omega (arith, few, short, order_short (length J) order o, job.short);
  pairs = all_fit s (serial m J order s) (changes s (serial m J order s)) (changes_fit s (serial m J order s) st after);
  sorted = rises_sorted (changes s (serial m J order s)) (sorted_changes s (serial m J order s));
  end_count = omega (arith, length-tabulate (length J) (serial_end m J order s), job.short);
  ends = all_tabulate IsEnding (length J) (serial_end m J order s) (λ k. serial_end_in m a J b order s k st);
}
  where
    b : AreBounded (plan_at m.begins J)
    b = bounded m.begins p J job

    after : IsStore (serial m J order s)
    after = store_is_in m a p J order s job st

    few : length (changes s (serial m J order s)) ≤ length (all_wrote (plan_at m.begins J) s order)
    few = few_changes s (serial m J order s) (all_wrote (plan_at m.begins J) s order) st after
        (λ q h. ap (λ (t : Store). value_at t q) (sym (serial_is m a J order s)) ∙ kept_value (plan_at m.begins J) order s q h)

    short : length (all_wrote (plan_at m.begins J) s order) ≤ 8 * length order
    short = few_keys (plan_at m.begins J) b order s st

pub token_read : (o : Outcome) → FitsOutcome o → whole (outcome_at (outcome o)) ≡ Some o
token_read o fits = ap (λ (r : Read Outcome). whole r) (ap outcome_at (sym (append-nil (outcome o))) ∙ outcome_grammar.again o [] fits)
