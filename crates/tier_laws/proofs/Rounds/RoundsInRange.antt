-- The stores and jobs of rounds are in range: at most 16 segments, each of a request.
use Rattle.std.proofs.Common.{◌≡◌, ℕ, ◌+◌, ◌<◌, ◌≤◌, Bool, true, false, cond, List, [], ◌∷◌, length, map, refl, sym, ap}
use Rattle.std.proofs.Common.{◌∙◌, subst, inl, inr, Option, Some, None, zero, suc, arith}
use Rattle.std.specs.Prelude.{slice_get, ◌⊎◌, ◌==◌, ◌||◌}
use Rattle.std.proofs.lemmas.Bool.{cond-false, ne_eqb}
use Rattle.std.proofs.lemmas.Option.{cond_some}
use Rattle.aeg_base.specs.Store.{Store}
use Rattle.aeg_base.proofs.StoreLaws.{value_at-empty}
use Rattle.svc_api.specs.Requests.{IsRequest}
use Rattle.svc_api.specs.declared.action.Ending.{Ending}
use Rattle.exec_model.specs.declared.job.Seg.{Seg}
use Rattle.log_model.specs.Log.{count_below}
use Rattle.log_model.proofs.Basics.{count-one}
use Rattle.log_values.specs.declared.any_value.AnyValue.{AnyValue}
use Rattle.log_values.specs.declared.mid_value.Verdict.{Verdict}
use Rattle.log_values.specs.declared.entry.Entry.{Entry}
use Rattle.round_model.specs.Lists.{and_then, concat, head_of, tail_of}
use Rattle.round_model.specs.Service.{Service, finish, is_order}
use Rattle.round_model.specs.Tables.{Parked, Tables, tables0, fresh_of, Number, Want, resumed, started, wants, Codes, as_seg, answered, parks, settled}
use Rattle.round_model.specs.After.{verdict_at, order_in, Round, round_at, done, after, round}
use Rattle.tier_laws.specs.Said.{IsStore, IsJob, Laws}
use Rattle.tier_laws.proofs.Rounds.StableRounds.{then_parts, round_parts, RoundParts}
use Rattle.tier_laws.proofs.Rounds.ActsByIndex.{acts_want, NoneOf, Distinct}
use Rattle.tier_laws.proofs.Server.LegalRounds.{job_at, job-length}
use Rattle.tier_laws.proofs.Rounds.WantsDiffer.{concat-head, concat-push, parks_acts, fresh-at, is_fresh_parts, IsFresh, in_range_parts, InRange}
use Rattle.tier_laws.proofs.Server.MirroredTables.{wants_distinct_of, settled_one, parked_is, no_parked}
use Rattle.tier_laws.proofs.Lists.ItemsByIndex.{get_cases, get_left, get_right, get_map}

abbrev IsAsked : ℕ → ℕ → Type 0
IsAsked client seq = IsRequest (record { client = client; seq = seq })

pub record TablesIn (T : Tables) : Type 0 where
  pub store : IsStore T.store
  pub asked : (i : ℕ) (p : Parked) → slice_get (concat T.queue) i ≡ Some p → IsAsked p.client p.seq
  pub one : Distinct (map resumed (concat T.queue))

pub record RoundIn (R : Round) : Type 0 where
  pub store : IsStore R.tables.store
  pub job : IsJob R.job

-- AT MOST 16

has_client : List Want → ℕ → Bool
has_client [] c = false
has_client (w ∷ ws) c = (w.client == c) || has_client ws c

none_has : (ws : List Want) (c : ℕ) → NoneOf c ws → has_client ws c ≡ false
unfolding has_client
none_has [] c n = refl
none_has (w ∷ ws) c n = let g = ne_eqb w.client c n.0 in rw (g, none_has ws c n.1) refl

count-wants : (ws : List Want) → Distinct ws → ((i : ℕ) (w : Want) → slice_get ws i ≡ Some w → w.client < 17) → length ws ≡ count_below 17 (has_client ws)
unfolding has_client
count-wants [] d k = refl
count-wants (w ∷ ws) d k = ap suc (count-wants ws d.1 (λ i v e. k (suc i) v e))
    ∙ sym (count-one 17 w.client (has_client ws) (k 0 w refl) (none_has ws w.client d.0))

count_at_most : (n : ℕ) (f : ℕ → Bool) → count_below n f ≤ n
count_at_most zero f = omega arith
count_at_most (suc n) f = go (f n) (count_at_most n f)
  where
    go : (b : Bool) → count_below n f ≤ n → cond b 1 0 + count_below n f ≤ suc n
    go true l = omega arith
    go false l = omega arith

count_first : (n : ℕ) (f : ℕ → Bool) → f 0 ≡ false → count_below (suc n) f ≤ n
count_first zero f e = omega (arith, cond-false {A = ℕ} (f 0) 1 0 e)
count_first (suc n) f e = go (f (suc n)) (count_first n f e)
  where
    go : (b : Bool) → count_below (suc n) f ≤ n → cond b 1 0 + count_below (suc n) f ≤ suc n
    go true l = omega arith
    go false l = omega arith

zero_none : (ws : List Want) → ((i : ℕ) (w : Want) → slice_get ws i ≡ Some w → IsAsked w.client w.seq) → has_client ws 0 ≡ false
unfolding has_client
zero_none [] k = refl
zero_none (w ∷ ws) k = let q = (k 0 w refl).client_low in let g = ne_eqb w.client 0 (λ h. omega arith) in rw (g, zero_none ws (λ i v e. k (suc i) v e)) refl

few_wants : (ws : List Want) → Distinct ws → ((i : ℕ) (w : Want) → slice_get ws i ≡ Some w → IsAsked w.client w.seq) → length ws ≤ 16
few_wants ws d k = omega (arith, count-wants ws d (λ i w e. let q = (k i w e).client_high in omega arith), count_first 16 (has_client ws) (zero_none ws k))

-- ROUNDS

wants_asked : {B : Type 0} (m : Service B) (T : Tables) (es : List Entry) → TablesIn T → (i : ℕ) (w : Want)
    → slice_get (wants m.programs T es) i ≡ Some w → IsAsked w.client w.seq
wants_asked {B} m T es k i w e = go (get_cases (map resumed (head_of T.queue)) (map started (fresh_of m.programs T [] es)) i w e)
  where
    go : (slice_get (map resumed (head_of T.queue)) i ≡ Some w)
        ⊎ ((j : ℕ) × (slice_get (map started (fresh_of m.programs T [] es)) j ≡ Some w)) → IsAsked w.client w.seq
    go (inl f) =
        let a = get_map resumed (head_of T.queue) i w f in
        subst (λ (z : Want). IsAsked z.client z.seq) a.2
        (k.asked i a.0 (subst (λ z. slice_get z i ≡ Some a.0) (sym (concat-head T.queue))
        (get_left (head_of T.queue) (concat (tail_of T.queue)) i a.0 a.1)))
    go (inr r) =
        let a = get_map started (fresh_of m.programs T [] es) r.0 w r.1 in
        let f : IsFresh m T a.0 = is_fresh_parts m T a.0 (fresh-at m T [] es r.0 a.0 a.1).0 in
        let q : InRange a.0 = in_range_parts a.0 f.range in
        subst (λ (z : Want). IsAsked z.client z.seq) a.2 (record { client_low = q.low; client_high = q.high; seq_low = omega (arith, f.seq); seq_high = q.seq })

answered_who : (A : Codes) (w : Want) (q : Option Number) (j : Seg) → answered A w q ≡ Some j → j.who ≡ record { client = w.client; seq = w.seq }
answered_who A w None j e = let s : as_seg w None ≡ j = cc in sym (ap (λ (z : Seg). z.who) s)
answered_who A w (Some k) j e =
    let p = then_parts (A k.tier k.num) (λ code. Some (as_seg w (Some code))) j e in
    let f = p.2 in let s : as_seg w (Some p.0) ≡ j = cc in sym (ap (λ (z : Seg). z.who) s)

round_at_in : {B : Type 0} (m : Service B) (L : List AnyValue) (A : Codes) (r : ℕ) (T : Tables) (R : Round) → TablesIn T
    → round_at m.programs L A r T ≡ Some R → RoundIn R
round_at_in m L A r T R k e =
    let p : RoundParts m L A r T R = round_parts m L A r T R e in
    record {
      store = subst (λ (z : Tables). IsStore z.store) (sym p.is_tables) k.store;
      job = record {
        short = omega (
          arith,
          job-length A (wants m.programs T p.batch) R.job p.is_job,
          few_wants (wants m.programs T p.batch) (wants_distinct_of m T p.batch k.one) (wants_asked m T p.batch k),
        );
        asked = λ i j f.
            let w = job_at A (wants m.programs T p.batch) R.job i j p.is_job f in
            subst IsRequest (sym (answered_who A w.0 w.0.call j w.2)) (wants_asked m T p.batch k i w.0 w.1);
      };
    }

settled_in : {B : Type 0} (m : Service B) (T : Tables) (es : List Entry) (store : Store) (ends : List Ending)
    → TablesIn T → IsStore store → TablesIn (settled T (wants m.programs T es) (record { store = store; ends = ends }))
settled_in {B} m T es store ends k s = record {
  store = s;
  asked = λ i p e. asked i p (get_cases (concat (tail_of T.queue)) (parks T.next (wants m.programs T es) ends) i p
      (subst (λ z. slice_get z i ≡ Some p) (concat-push (tail_of T.queue) (parks T.next (wants m.programs T es) ends)) e));
  one = settled_one m T es ends k.one;
}
  where
    asked : (i : ℕ) (p : Parked) → (slice_get (concat (tail_of T.queue)) i ≡ Some p)
        ⊎ ((j : ℕ) × (slice_get (parks T.next (wants m.programs T es) ends) j ≡ Some p)) → IsAsked p.client p.seq
    asked i p (inl e) = let r = get_right (head_of T.queue) (concat (tail_of T.queue)) i p e in k.asked r.0 p
        (subst (λ z. slice_get z r.0 ≡ Some p) (sym (concat-head T.queue)) r.1)
    asked i p (inr f) =
        let a = parks_acts T.next (wants m.programs T es) ends f.0 p f.1 in
        let q = parked_is a.1.want a.1.num a.1.ending p a.3 in
        let w = wants_asked m T es k a.0 a.1.want (acts_want T.next (wants m.programs T es) ends a.0 a.1 a.2).0 in
        subst (λ z. IsAsked p.client z) (sym q.1) (subst (λ z. IsAsked z a.1.want.seq) (sym q.0) w)

pub after_in : {B : Type 0} (m : Service B) (D : ℕ) (L : List AnyValue) (A : Codes) (r : ℕ) (T : Tables)
    → Laws m.programs → after m.programs D L A r ≡ Some T → TablesIn T
after_in m D L A zero T laws e =
    let s : tables0 D ≡ T = cc in
    subst TablesIn s (record {
      store = record { keys = λ k n. absurd (n (value_at-empty k)); values = λ k. let z = value_at-empty k in omega arith };
      asked = λ i p f. absurd (let g : slice_get [] i ≡ Some p = subst (λ z. slice_get z i ≡ Some p) (no_parked D) f in cc);
      one = subst (λ z. Distinct (map resumed z)) (sym (no_parked D)) tt;
    })
after_in {B} m D L A (suc r) T laws e = subst TablesIn same (next (after_in m D L A r p.0 laws p.1))
  where
    p : (U : Tables) × (after m.programs D L A r ≡ Some U)
        × (and_then (round_at m.programs L A r U) (λ R. and_then (verdict_at L r) (done m.programs R)) ≡ Some T)
    p = then_parts (after m.programs D L A r) (λ T. and_then (round_at m.programs L A r T) (λ R. and_then (verdict_at L r) (done m.programs R))) T e

    q : (R : Round) × (round_at m.programs L A r p.0 ≡ Some R) × (and_then (verdict_at L r) (done m.programs R) ≡ Some T)
    q = then_parts (round_at m.programs L A r p.0) (λ R. and_then (verdict_at L r) (done m.programs R)) T p.2

    v : (v : Verdict) × (verdict_at L r ≡ Some v) × (done m.programs q.0 v ≡ Some T)
    v = then_parts (verdict_at L r) (done m.programs q.0) T q.2

    order : List ℕ
    order = order_in (length q.0.job) v.0

    c : (is_order (length q.0.job) order ≡ true) × (settled q.0.tables q.0.wants (finish m.programs q.0.job order q.0.tables.store) ≡ T)
    c = cond_some (is_order (length q.0.job) order) (settled q.0.tables q.0.wants (finish m.programs q.0.job order q.0.tables.store)) T v.2

    same : settled q.0.tables q.0.wants (finish m.programs q.0.job order q.0.tables.store) ≡ T
    same = c.1

    parts : RoundParts m L A r p.0 q.0
    parts = round_parts m L A r p.0 q.0 q.1

    next : TablesIn p.0 → TablesIn (settled q.0.tables q.0.wants (finish m.programs q.0.job order q.0.tables.store))
    next before =
        let made : RoundIn q.0 = round_at_in m L A r p.0 q.0 before q.1 in
        subst (λ (z : Tables × List Want). TablesIn
        (settled z.0 z.1 (finish m.programs q.0.job order q.0.tables.store)))
        (λ i. (sym parts.is_tables i, sym parts.is_wants i))
        (settled_in m p.0 parts.batch (finish m.programs q.0.job order q.0.tables.store).store
        (finish m.programs q.0.job order q.0.tables.store).ends before
        (laws.stores q.0.job order q.0.tables.store made.job c.0 made.store))

pub round_in : {B : Type 0} (m : Service B) (D : ℕ) (L : List AnyValue) (A : Codes) (r : ℕ) (R : Round)
    → Laws m.programs → round m.programs D L A r ≡ Some R → RoundIn R
round_in m D L A r R laws e =
    let p = then_parts (after m.programs D L A r) (round_at m.programs L A r) R e in
    round_at_in m L A r p.0 R (after_in m D L A r p.0 laws p.1) p.2
