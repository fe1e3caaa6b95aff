-- The one server has what the tables have, and a round keeps that.
use Rattle.std.proofs.Common.{◌≡◌, ℕ, ◌<◌, true, List, [], ◌∷◌, ◌++◌, length, map, refl, sym, ap, ◌∙◌, subst, inl, inr, Option, Some, None, zero, suc, arith}
use Rattle.std.specs.Prelude.{slice_get, ◌⊎◌, replicate}
use Rattle.std.proofs.lemmas.Bool.{and_parts}
use Rattle.std.proofs.lemmas.List.{map-append}
use Rattle.std.proofs.lemmas.Option.{slice_get_within}
use Rattle.aeg_base.specs.declared.names.Tier.{Tier}
use Rattle.aeg_base.specs.declared.names.Tier.TheVariants.{Mid as MidTier, Inv, Pay}
use Rattle.exec_model.specs.declared.job.Seg.{Seg}
use Rattle.log_values.specs.declared.entry.Entry.{Entry}
use Rattle.round_model.specs.Lists.{of_tier, concat, head_of, tail_of}
use Rattle.round_model.specs.Service.{Service, all_below, each_once, finish, is_order, serial, serial_end, times}
use Rattle.round_model.specs.Tables.{last_of, Parked, Tables, Want, fresh_of, job_of, last_after, next_after, parked_of}
use Rattle.round_model.specs.Tables.{parks, resumed, settled, started, tables0, wants}
use Rattle.svc_api.specs.declared.action.Ending.{Ending}
use Rattle.svc_api.specs.declared.action.Ending.TheVariants.{Call, Reply}
use Rattle.tier_laws.proofs.Rounds.ActsByIndex.{Act, Distinct, NoneOf, Numbered, acts_want, find_client, last-in, last-out}
use Rattle.tier_laws.proofs.Rounds.ActsByIndex.{next-raises, none_not, num-high, num-low, parked_by, parks-in, parks-out, want_acts}
use Rattle.tier_laws.proofs.Lists.ItemsByIndex.{at-replicate, get_cases, get_right, get_map, length-tabulate, map_get}
use Rattle.svc_api.proofs.Orders.{once-at}
use Rattle.tier_laws.proofs.Server.LegalRounds.{Setting, acts_of, ends_of, job-length}
use Rattle.tier_laws.proofs.Rounds.AnyOrder.{Bounded, Partway, ToldOne, WantOk, progress_by}
use Rattle.tier_laws.proofs.Rounds.WantsDiffer.{IsFresh, in_range_parts, concat-head, concat-push, distinct-apart, distinct-join}
use Rattle.tier_laws.proofs.Rounds.WantsDiffer.{distinct-left, distinct-right, fresh-at, fresh-distinct, is_fresh_parts, none-parts}
use Rattle.tier_laws.proofs.Rounds.WantsDiffer.{none_from, none_parked, parked-skip, parked-stop, parked_at, parks-distinct}
use Rattle.tier_laws.proofs.Rounds.WantsDiffer.{parks-none, parks_acts}
use Rattle.tier_laws.proofs.Server.LookUps.{Progress, Server, empty_server}

abbrev pub in_progress : Option Parked → Option Progress
in_progress None = None
in_progress (Some p) = Some (record { seq = p.seq; body = p.body; stage = p.stage; tier = p.tier; num = p.num })

pub record Mirrors {B : Type 0} (m : Service B) (T : Tables) (O : Server B) : Type 0 where
  pub store : O.store ≡ T.store
  pub last : (c : ℕ) → O.last c ≡ last_of T.last c
  pub progress : (c : ℕ) → O.progress c ≡ in_progress (parked_of c (concat T.queue))
  pub calls : (t : Tier) (n : ℕ) (text : List ℕ) → O.calls t n ≡ Some text → (0 < n) × (n < of_tier T.next t)
  pub parked : (i : ℕ) (p : Parked) → slice_get (concat T.queue) i ≡ Some p → (O.calls p.tier p.num ≡ Some p.text) × (p.seq ≡ last_of T.last p.client)
  pub one : Distinct (map resumed (concat T.queue))
  pub first : (t : Tier) → 0 < of_tier T.next t
  pub bounded : Bounded O

-- the parked requests that wait for this round, and those that wait longer
pub record Split (T : Tables) : Type 0 where
  pub one : Distinct (map resumed (head_of T.queue) ++ map resumed (concat (tail_of T.queue)))

pub split_of : (T : Tables) → Distinct (map resumed (concat T.queue)) → Split T
split_of T one = record { one = subst Distinct (ap (map resumed) (concat-head T.queue) ∙ map-append resumed (head_of T.queue) (concat (tail_of T.queue))) one }

split : {B : Type 0} (m : Service B) (T : Tables) (O : Server B) → Mirrors m T O → Split T
split m T O k = split_of T k.one

-- no want's client waits longer
pub tail_apart_of : {B : Type 0} (m : Service B) (T : Tables) (es : List Entry) (i : ℕ) (w : Want)
    → Distinct (map resumed (concat T.queue)) → slice_get (wants m.programs T es) i ≡ Some w
    → NoneOf w.client (map resumed (concat (tail_of T.queue)))
tail_apart_of {B} m T es i w one e = go (get_cases (map resumed (head_of T.queue)) (map started (fresh_of m.programs T [] es)) i w e)
  where
    go : (slice_get (map resumed (head_of T.queue)) i ≡ Some w)
        ⊎ ((j : ℕ) × (slice_get (map started (fresh_of m.programs T [] es)) j ≡ Some w))
        → NoneOf w.client (map resumed (concat (tail_of T.queue)))
    go (inl f) = distinct-apart (map resumed (head_of T.queue)) (map resumed (concat (tail_of T.queue))) i w (split_of T one).one f
    go (inr r) =
        let a = get_map started (fresh_of m.programs T [] es) r.0 w r.1 in
        let f : IsFresh m T a.0 = is_fresh_parts m T a.0 (fresh-at m T [] es r.0 a.0 a.1).0 in
        let n : NoneOf a.0.client (map resumed (concat T.queue)) = none_parked a.0.client (concat T.queue) f.idle in
        let n2 : NoneOf a.0.client (map resumed (head_of T.queue) ++ map resumed (concat (tail_of T.queue))) = subst
        (NoneOf a.0.client) (ap (map resumed) (concat-head T.queue)
        ∙ map-append resumed (head_of T.queue) (concat (tail_of T.queue))) n in
        subst (λ (z : Want). NoneOf z.client (map resumed (concat (tail_of T.queue)))) a.2
        (none-parts a.0.client (map resumed (head_of T.queue)) (map resumed (concat (tail_of T.queue))) n2).1

pub wants_distinct_of : {B : Type 0} (m : Service B) (T : Tables) (es : List Entry) → Distinct (map resumed (concat T.queue)) → Distinct (wants m.programs T es)
wants_distinct_of {B} m T es one = distinct-join (map resumed (head_of T.queue))
    (map started (fresh_of m.programs T [] es))
    (distinct-left (map resumed (head_of T.queue)) (map resumed (concat (tail_of T.queue))) (split_of T one).one)
    (fresh-distinct m T [] es) (record { at = at })
  where
    at : (i : ℕ) (w : Want) → slice_get (map resumed (head_of T.queue)) i ≡ Some w → NoneOf w.client (map started (fresh_of m.programs T [] es))
    at i w e = none_from w.client (map started (fresh_of m.programs T [] es)) (λ j v f g.
        let a = get_map started (fresh_of m.programs T [] es) j v f in
        let fr : IsFresh m T a.0 = is_fresh_parts m T a.0 (fresh-at m T [] es j a.0 a.1).0 in
        let n : NoneOf a.0.client (map resumed (concat T.queue)) = none_parked a.0.client (concat T.queue) fr.idle in
        let n2 : NoneOf a.0.client (map resumed (head_of T.queue) ++ map resumed (concat (tail_of T.queue))) = subst
        (NoneOf a.0.client) (ap (map resumed) (concat-head T.queue)
        ∙ map-append resumed (head_of T.queue) (concat (tail_of T.queue))) n in
        let n3 : NoneOf a.0.client (map resumed (head_of T.queue)) = (none-parts a.0.client
        (map resumed (head_of T.queue)) (map resumed (concat (tail_of T.queue))) n2).0 in
        none_not a.0.client (map resumed (head_of T.queue)) i w n3 e (sym g ∙ sym (ap (λ (z : Want). z.client) a.2)))

tail_apart : {B : Type 0} (m : Service B) (T : Tables) (O : Server B) (es : List Entry) (i : ℕ) (w : Want)
    → Mirrors m T O → slice_get (wants m.programs T es) i ≡ Some w → NoneOf w.client (map resumed (concat (tail_of T.queue)))
tail_apart m T O es i w k e = tail_apart_of m T es i w k.one e

wants_distinct : {B : Type 0} (m : Service B) (T : Tables) (O : Server B) (es : List Entry) → Mirrors m T O → Distinct (wants m.programs T es)
wants_distinct m T O es k = wants_distinct_of m T es k.one

-- the requests that wait after a round are of different clients
pub settled_one : {B : Type 0} (m : Service B) (T : Tables) (es : List Entry) (ends : List Ending)
    → Distinct (map resumed (concat T.queue))
    → Distinct (map resumed (concat (tail_of T.queue ++ parks T.next (wants m.programs T es) ends ∷ [])))
settled_one {B} m T es ends one = subst Distinct
    (sym (ap (map resumed) (concat-push (tail_of T.queue) new) ∙ map-append resumed tail new))
    (distinct-join (map resumed tail) (map resumed new)
    (distinct-right (map resumed (head_of T.queue)) (map resumed tail) (split_of T one).one)
    (parks-distinct T.next (wants m.programs T es) ends (wants_distinct_of m T es one))
    (record {
      at = λ i w e. let a = get_map resumed tail i w e in subst
          (λ (z : Want). NoneOf z.client (map resumed new)) a.2
          (parks-none T.next (wants m.programs T es) ends a.0.client (away i a.0 a.1));
    }))
  where
    tail : List Parked
    tail = concat (tail_of T.queue)

    new : List Parked
    new = parks T.next (wants m.programs T es) ends

    away : (i : ℕ) (p : Parked) → slice_get tail i ≡ Some p → NoneOf p.client (wants m.programs T es)
    away i p e = none_from p.client (wants m.programs T es)
        (λ j w f h. none_not w.client (map resumed tail) i (resumed p) (tail_apart_of m T es j w one f)
        (map_get resumed tail i p e) (sym h))

want_ok : {B : Type 0} (m : Service B) (T : Tables) (O : Server B) (es : List Entry) (i : ℕ) (w : Want) → Mirrors m T O
    → slice_get (wants m.programs T es) i ≡ Some w → WantOk m O w w.call
want_ok {B} m T O es i w k e = go (get_cases (map resumed (head_of T.queue)) (map started (fresh_of m.programs T [] es)) i w e)
  where
    in_queue : (i : ℕ) (p : Parked) → slice_get (head_of T.queue) i ≡ Some p → slice_get (concat T.queue) i ≡ Some p
    in_queue i p f = subst (λ z. slice_get z i ≡ Some p) (sym (concat-head T.queue)) (get_left (head_of T.queue) (concat (tail_of T.queue)) i p f)
      where
        get_left : (xs ys : List Parked) (i : ℕ) (p : Parked) → slice_get xs i ≡ Some p → slice_get (xs ++ ys) i ≡ Some p
        get_left [] ys i p e = absurd (cc)
        get_left (x ∷ xs) ys zero p e = e
        get_left (x ∷ xs) ys (suc i) p e = get_left xs ys i p e

    old : (i : ℕ) (p : Parked) → slice_get (head_of T.queue) i ≡ Some p → WantOk m O (resumed p) (resumed p).call
    old i p f =
        let g : slice_get (concat T.queue) i ≡ Some p = in_queue i p f in
        ((k.parked i p g).1 ∙ sym (k.last p.client), k.progress p.client ∙ ap in_progress (parked_at (concat T.queue) i p k.one g))

    go : (slice_get (map resumed (head_of T.queue)) i ≡ Some w)
        ⊎ ((j : ℕ) × (slice_get (map started (fresh_of m.programs T [] es)) j ≡ Some w)) → WantOk m O w w.call
    go (inl f) = let a = get_map resumed (head_of T.queue) i w f in subst (λ (z : Want). WantOk m O z z.call) a.2 (old i a.0 a.1)
    go (inr r) =
        let a = get_map started (fresh_of m.programs T [] es) r.0 w r.1 in
        let f : IsFresh m T a.0 = is_fresh_parts m T a.0 (fresh-at m T [] es r.0 a.0 a.1).0 in
        subst (λ (z : Want). WantOk m O z z.call) a.2 (
          f.seq ∙ ap suc (sym (k.last a.0.client)),
          k.progress a.0.client
              ∙ ap in_progress f.idle,
          f.body,
          refl,
          omega (arith, (in_range_parts a.0 f.range).high),
        )

pub setting : {B : Type 0} (m : Service B) (T : Tables) (O : Server B) (es : List Entry) (J : List Seg) (order : List ℕ)
    → Mirrors m T O → job_of O.served (wants m.programs T es) ≡ Some J → is_order (length J) order ≡ true
    → Setting m O T.next (wants m.programs T es) J order
setting m T O es J order k e o =
    let p = and_parts (all_below (length J) order) (each_once (length J) order) o in
    record {
      job = e;
      distinct = wants_distinct m T O es k;
      ok = λ i w f. want_ok m T O es i w k f;
      first = k.first;
      fresh = λ t n text f. (k.calls t n text f).1;
      inside = p.0;
      once = p.1;
    }

by_progress : (w : Want) (k : ℕ) (e : Ending) → progress_by w k e ≡ in_progress (parked_by w k e)
by_progress w k (Reply text) = refl
by_progress w k (Call t stage text) = refl

-- what is parked for an act is its call
pub parked_is : (w : Want) (k : ℕ) (e : Ending) (p : Parked) → parked_by w k e ≡ Some p → (p.client ≡ w.client)
    × (p.seq ≡ w.seq) × (e ≡ Call p.tier p.stage p.text) × (p.num ≡ k)
parked_is w k (Reply text) p f = absurd (cc)
parked_is w k (Call t stage text) p f =
    let s : record { client = w.client; seq = w.seq; body = w.body; stage = stage; tier = t; num = k; text = text } ≡ p = cc in (
      sym (ap (λ (z : Parked). z.client) s),
      sym (ap (λ (z : Parked). z.seq) s),
      ap (λ (z : Parked). Call z.tier z.stage z.text) s,
      sym (ap (λ (z : Parked). z.num) s),
    )

told_call : {B : Type 0} (P : Server B) (w : Want) (k : ℕ) (e : Ending) (t : Tier) (stage : ℕ) (text : List ℕ)
    → ToldOne P w k e → e ≡ Call t stage text → P.calls t k ≡ Some text
told_call P w k e t stage text o f = subst (ToldOne P w k) f o

pub mirrors_kept : {B : Type 0} (m : Service B) (T : Tables) (O : Server B) (es : List Entry) (J : List Seg)
    (order : List ℕ) (P : Server B) → Mirrors m T O → Setting m O T.next (wants m.programs T es) J order
    → Partway O (acts_of m O T.next (wants m.programs T es) J order) (wants m.programs T es) order (serial m.programs J order O.store) P → Bounded P
    → Mirrors m (settled T (wants m.programs T es) (finish m.programs J order O.store)) P
mirrors_kept {B} m T O es J order P k g r b = record {
  store = r.store;
  last = λ c. last c (find_client c ws);
  progress = λ c. progress c (find_client c ws);
  calls = λ t n text e. calls t n text (r.calls t n text e);
  parked = λ i p e. parked p i (get_cases tail new i p (subst (λ z. slice_get z i ≡ Some p) (concat-push (tail_of T.queue) new) e));
  one = settled_one m T es (ends_of m J order O.store) k.one;
  first = λ t. omega (arith, k.first t, next-raises T.next (ends_of m J order O.store) t);
  bounded = b;
}
  where
    ws : List Want
    ws = wants m.programs T es

    tail : List Parked
    tail = concat (tail_of T.queue)

    new : List Parked
    new = parks T.next ws (ends_of m J order O.store)

    away : (i : ℕ) (p : Parked) → slice_get tail i ≡ Some p → NoneOf p.client ws
    away i p e = none_from p.client ws
        (λ j w f h. none_not w.client (map resumed tail) i (resumed p) (tail_apart m T O es j w k f)
        (map_get resumed tail i p e) (sym h))

    finished : (i : ℕ) (a : Act) → slice_get (acts_of m O T.next ws J order) i ≡ Some a
        → (P.last a.want.client ≡ a.want.seq) × (P.progress a.want.client ≡ progress_by a.want a.num a.ending)
        × ToldOne P a.want a.num a.ending
    finished i a e =
        let l : i < length ws = slice_get_within ws i a.want (acts_want T.next ws (ends_of m J order O.store) i a e).0 in
        let o : times i order ≡ 1 = once-at (length J) i order (omega (arith, job-length O.served ws J g.job)) g.once in
        r.ended i a e (omega arith)

    act : (i : ℕ) (w : Want) → slice_get ws i ≡ Some w → (a : Act) × (slice_get (acts_of m O T.next ws J order) i ≡ Some a) × (a.want ≡ w)
    act i w e = want_acts T.next ws (ends_of m J order O.store) i w
        (omega (arith, job-length O.served ws J g.job, length-tabulate (length J) (serial_end m.programs J order O.store))) e

    last : (c : ℕ) → ((i : ℕ) × (w : Want) × (slice_get ws i ≡ Some w) × (w.client ≡ c)) ⊎ NoneOf c ws → P.last c ≡ last_of (last_after ws T.last) c
    last c (inl f) =
        let a = act f.0 f.1 f.2 in
        let h = finished f.0 a.0 a.1 in
        let q : P.last f.1.client ≡ f.1.seq = subst (λ (z : Want). P.last z.client ≡ z.seq) a.2 h.0 in
        subst (λ z. P.last z ≡ last_of (last_after ws T.last) z) f.3 (q ∙ sym (last-in ws T.last f.0 f.1 g.distinct f.2))
    last c (inr n) = (r.others c n).0 ∙ k.last c ∙ sym (last-out ws T.last c n)

    progress : (c : ℕ) → ((i : ℕ) × (w : Want) × (slice_get ws i ≡ Some w) × (w.client ≡ c)) ⊎ NoneOf c ws
        → P.progress c ≡ in_progress (parked_of c (concat (tail_of T.queue ++ new ∷ [])))
    progress c (inl f) =
        let a = act f.0 f.1 f.2 in
        let h = finished f.0 a.0 a.1 in
        let same : a.0.want.client ≡ c = ap (λ (z : Want). z.client) a.2 ∙ f.3 in
        let n : NoneOf a.0.want.client (map resumed tail) = subst (λ (z : Want). NoneOf z.client (map resumed tail))
        (sym a.2) (tail_apart m T O es f.0 f.1 k f.2) in
        subst (λ z. P.progress z ≡ in_progress (parked_of z (concat (tail_of T.queue ++ new ∷ [])))) same
        (h.1 ∙ by_progress a.0.want a.0.num a.0.ending ∙ ap in_progress (sym (parks-in T.next ws (ends_of m J order O.store) f.0 a.0 g.distinct a.1))
        ∙ ap in_progress (sym (parked-skip a.0.want.client tail new n))
        ∙ ap (λ z. in_progress (parked_of a.0.want.client z)) (sym (concat-push (tail_of T.queue) new)))
    progress c (inr n) =
        (r.others c n).1 ∙ k.progress c ∙ ap (λ z. in_progress (parked_of c z)) (concat-head T.queue)
        ∙ ap in_progress (parked-skip c (head_of T.queue) tail (none-parts c (map resumed (head_of T.queue)) (map started (fresh_of m.programs T [] es)) n).0)
        ∙ ap in_progress (sym (parked-stop c tail new (parks-out T.next ws (ends_of m J order O.store) c n)))
        ∙ ap (λ z. in_progress (parked_of c z)) (sym (concat-push (tail_of T.queue) new))

    calls : (t : Tier) (n : ℕ) (text : List ℕ) → (O.calls t n ≡ Some text)
        ⊎ ((i : ℕ) × (a : Act) × (slice_get (acts_of m O T.next ws J order) i ≡ Some a) × (0 < times i order)
        × Numbered a t n) → (0 < n) × (n < of_tier (next_after T.next (ends_of m J order O.store)) t)
    calls t n text (inl e) = let q = k.calls t n text e in (q.0, omega (arith, q.1, next-raises T.next (ends_of m J order O.store) t))
    calls t n text (inr f) = (
      omega (
        arith,
        k.first t,
        num-low T.next ws (ends_of m J order O.store) f.0 f.1 t n f.2 f.4,
      ),
      num-high T.next ws (ends_of m J order O.store) f.0 f.1 t n f.2 f.4,
    )

    parked : (p : Parked) (i : ℕ) → (slice_get tail i ≡ Some p) ⊎ ((j : ℕ) × (slice_get new j ≡ Some p))
        → (P.calls p.tier p.num ≡ Some p.text) × (p.seq ≡ last_of (last_after ws T.last) p.client)
    parked p i (inl e) =
        let h = get_right (head_of T.queue) tail i p e in
        let q = k.parked h.0 p (subst (λ z. slice_get z h.0 ≡ Some p) (sym (concat-head T.queue)) h.1) in
        (r.kept.calls p.tier p.num p.text q.0, q.1 ∙ sym (last-out ws T.last p.client (away i p e)))
    parked p i (inr f) =
        let a = parks_acts T.next ws (ends_of m J order O.store) f.0 p f.1 in
        let q = parked_is a.1.want a.1.num a.1.ending p a.3 in
        let h = finished a.0 a.1 a.2 in (
          ap (P.calls p.tier) q.3 ∙ told_call P a.1.want a.1.num a.1.ending p.tier p.stage p.text h.2 q.2,
          q.1 ∙ sym (last-in ws T.last a.0 a.1.want g.distinct
              (acts_want T.next ws (ends_of m J order O.store) a.0 a.1 a.2).0) ∙ ap (last_of (last_after ws T.last)) (sym q.0),
        )

-- THE START

pub no_parked : (D : ℕ) → concat (replicate {A = List Parked} D []) ≡ []
no_parked zero = refl
no_parked (suc D) = no_parked D

pub mirrors_start : {B : Type 0} (m : Service B) (D : ℕ) → Mirrors m (tables0 D) (empty_server m)
mirrors_start {B} m D = record {
  store = refl;
  last = λ c. sym (at-replicate 0 17 c);
  progress = λ c. ap (λ z. in_progress (parked_of c z)) (sym (no_parked D));
  calls = λ t n text e. absurd (cc);
  parked = λ i p e. absurd (let f : slice_get [] i ≡ Some p = subst (λ z. slice_get z i ≡ Some p) (no_parked D) e in cc);
  one = subst (λ z. Distinct (map resumed z)) (sym (no_parked D)) tt;
  first = first;
  bounded = record { low = λ c s text e. absurd (cc); ended = λ c s text e f. absurd (cc) };
}
  where
    first : (t : Tier) → 0 < of_tier (tables0 D).next t
    first MidTier = omega arith
    first Inv = omega arith
    first Pay = omega arith
