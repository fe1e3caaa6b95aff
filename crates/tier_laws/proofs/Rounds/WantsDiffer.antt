-- The wants of a round: their clients differ, and none of them is parked elsewhere.
use Rattle.std.proofs.Common.{◌≡◌, ℕ, ◌≤◌, Bool, true, false, cond, List, [], ◌∷◌, ◌++◌, map, refl, sym, ap, ◌∙◌, subst}
use Rattle.std.proofs.Common.{inl, inr, Option, Some, None, zero, suc}
use Rattle.std.specs.Prelude.{nat_le, slice_get, ◌⊎◌, ◌==◌, ◌&&◌, not}
use Rattle.std.proofs.lemmas.Bool.{leb-true, eq-eqb, eqb-true, ne_eqb, cond-true, cond-false, cases_eq, and_parts, or_right}
use Rattle.std.proofs.lemmas.List.{append-nil, append_assoc}
use Rattle.log_values.specs.declared.entry.Entry.{Entry}
use Rattle.round_model.specs.Lists.{concat, head_of, is_some, tail_of}
use Rattle.svc_api.specs.Orders.{mem}
use Rattle.round_model.specs.Service.{Service, is_request}
use Rattle.round_model.specs.Lists.{OfTiers, of_tier}
use Rattle.round_model.specs.Tables.{in_range, last_of, who_of, Parked, Tables, Want, bump, fresh_of, is_busy, is_fresh, parked_of, parks, resumed, started}
use Rattle.svc_api.specs.declared.action.Ending.{Ending}
use Rattle.svc_api.specs.declared.action.Ending.TheVariants.{Call, Reply}
use Rattle.tier_laws.proofs.Rounds.ActsByIndex.{Act, Distinct, NoneOf, acts, none_not, parked_by}
use Rattle.tier_laws.proofs.Lists.ItemsByIndex.{map_get}

pub none-parts : (c : ℕ) (xs ys : List Want) → NoneOf c (xs ++ ys) → NoneOf c xs × NoneOf c ys
none-parts c [] ys n = (tt, n)
none-parts c (x ∷ xs) ys n = let r = none-parts c xs ys n.1 in ((n.0, r.0), r.1)

pub none-join : (c : ℕ) (xs ys : List Want) → NoneOf c xs → NoneOf c ys → NoneOf c (xs ++ ys)
none-join c [] ys a b = b
none-join c (x ∷ xs) ys a b = (a.0, none-join c xs ys a.1 b)

pub record Apart (xs ys : List Want) : Type 0 where
  pub at : (i : ℕ) (w : Want) → slice_get xs i ≡ Some w → NoneOf w.client ys

pub distinct-join : (xs ys : List Want) → Distinct xs → Distinct ys → Apart xs ys → Distinct (xs ++ ys)
distinct-join [] ys a b c = b
distinct-join (x ∷ xs) ys a b c = (none-join x.client xs ys a.0 (c.at 0 x refl), distinct-join xs ys a.1 b (record { at = λ i w e. c.at (suc i) w e }))

pub distinct-left : (xs ys : List Want) → Distinct (xs ++ ys) → Distinct xs
distinct-left [] ys d = tt
distinct-left (x ∷ xs) ys d = ((none-parts x.client xs ys d.0).0, distinct-left xs ys d.1)

pub distinct-right : (xs ys : List Want) → Distinct (xs ++ ys) → Distinct ys
distinct-right [] ys d = d
distinct-right (x ∷ xs) ys d = distinct-right xs ys d.1

pub distinct-apart : (xs ys : List Want) (i : ℕ) (w : Want) → Distinct (xs ++ ys) → slice_get xs i ≡ Some w → NoneOf w.client ys
distinct-apart [] ys i w d e = absurd (cc)
distinct-apart (x ∷ xs) ys zero w d e = let s : x ≡ w = cc in subst (λ (z : Want). NoneOf z.client ys) s (none-parts x.client xs ys d.0).1
distinct-apart (x ∷ xs) ys (suc i) w d e = distinct-apart xs ys i w d.1 e

-- from either side
pub distinct-back : (xs ys : List Want) (i : ℕ) (w : Want) → Distinct (xs ++ ys) → slice_get ys i ≡ Some w → NoneOf w.client xs
distinct-back [] ys i w d e = tt
distinct-back (x ∷ xs) ys i w d e = ((λ f. none_not x.client ys i w (none-parts x.client xs ys d.0).1 e (sym f)), distinct-back xs ys i w d.1 e)

pub none_from : (c : ℕ) (ws : List Want) → ((i : ℕ) (w : Want) → slice_get ws i ≡ Some w → w.client ≡ c → ⊥) → NoneOf c ws
none_from c [] f = tt
none_from c (w ∷ ws) f = (f 0 w refl, none_from c ws (λ i v e. f (suc i) v e))

-- PARKED

pub parked_none : (c : ℕ) (Q : List Parked) → NoneOf c (map resumed Q) → parked_of c Q ≡ None
parked_none c [] n = refl
parked_none c (p ∷ Q) n = cond-false (p.client == c) (Some p) (parked_of c Q) (ne_eqb p.client c n.0) ∙ parked_none c Q n.1

pub none_parked : (c : ℕ) (Q : List Parked) → parked_of c Q ≡ None → NoneOf c (map resumed Q)
none_parked c [] e = tt
none_parked c (p ∷ Q) e = go (cases_eq p.client c) (none_parked c Q)
  where
    go : (p.client ≡ c) ⊎ (p.client ≡ c → ⊥) → (parked_of c Q ≡ None → NoneOf c (map resumed Q)) → NoneOf c (map resumed (p ∷ Q))
    go (inl f) r = absurd (let g : cond (p.client == c) (Some p) (parked_of c Q)
        ≡ Some p = cond-true (p.client == c) (Some p) (parked_of c Q) (eq-eqb p.client c f) in cc)
    go (inr f) r = (f, r (sym (cond-false (p.client == c) (Some p) (parked_of c Q) (ne_eqb p.client c f)) ∙ e))

pub parked_at : (Q : List Parked) (i : ℕ) (p : Parked) → Distinct (map resumed Q) → slice_get Q i ≡ Some p → parked_of p.client Q ≡ Some p
parked_at [] i p d e = absurd (cc)
parked_at (q ∷ Q) zero p d e = let s : q ≡ p = cc in subst (λ (z : Parked). parked_of z.client (q ∷ Q) ≡ Some z) s
    (cond-true (q.client == q.client) (Some q) (parked_of q.client Q) (eq-eqb q.client q.client refl))
parked_at (q ∷ Q) (suc i) p d e =
    cond-false (q.client == p.client) (Some q) (parked_of p.client Q)
    (ne_eqb q.client p.client (λ f. none_not q.client (map resumed Q) i (resumed p) d.0 (map_get resumed Q i p e) (sym f)))
    ∙ parked_at Q i p d.1 e

pub parked-skip : (c : ℕ) (Q R : List Parked) → NoneOf c (map resumed Q) → parked_of c (Q ++ R) ≡ parked_of c R
parked-skip c [] R n = refl
parked-skip c (p ∷ Q) R n = cond-false (p.client == c) (Some p) (parked_of c (Q ++ R)) (ne_eqb p.client c n.0) ∙ parked-skip c Q R n.1

pub parked-stop : (c : ℕ) (Q R : List Parked) → parked_of c R ≡ None → parked_of c (Q ++ R) ≡ parked_of c Q
parked-stop c [] R e = e
parked-stop c (p ∷ Q) R e = cond_same (p.client == c) (Some p) (parked_of c (Q ++ R)) (parked_of c Q) (parked-stop c Q R e)
  where
    cond_same : (b : Bool) (x y z : Option Parked) → y ≡ z → cond b x y ≡ cond b x z
    cond_same true x y z f = refl
    cond_same false x y z f = f

pub parks_acts : (next : OfTiers ℕ) (ws : List Want) (es : List Ending) (i : ℕ) (p : Parked)
    → slice_get (parks next ws es) i ≡ Some p → (j : ℕ) × (a : Act) × (slice_get (acts next ws es) j ≡ Some a)
    × (parked_by a.want a.num a.ending ≡ Some p)
parks_acts next [] es i p e = absurd (cc)
parks_acts next (w ∷ ws) [] i p e = absurd (cc)
parks_acts next (w ∷ ws) (Reply text ∷ es) i p e = let r = parks_acts next ws es i p e in (suc r.0, r.1, r.2, r.3)
parks_acts next (w ∷ ws) (Call t stage text ∷ es) zero p e = (0, record { want = w; ending = Call t stage text; num = of_tier next t }, refl, e)
parks_acts next (w ∷ ws) (Call t stage text ∷ es) (suc i) p e = let r = parks_acts (bump next t) ws es i p e in (suc r.0, r.1, r.2, r.3)

pub parks-none : (next : OfTiers ℕ) (ws : List Want) (es : List Ending) (c : ℕ) → NoneOf c ws → NoneOf c (map resumed (parks next ws es))
parks-none next [] es c n = tt
parks-none next (w ∷ ws) [] c n = tt
parks-none next (w ∷ ws) (Reply text ∷ es) c n = parks-none next ws es c n.1
parks-none next (w ∷ ws) (Call t stage text ∷ es) c n = (n.0, parks-none (bump next t) ws es c n.1)

pub parks-distinct : (next : OfTiers ℕ) (ws : List Want) (es : List Ending) → Distinct ws → Distinct (map resumed (parks next ws es))
parks-distinct next [] es d = tt
parks-distinct next (w ∷ ws) [] d = tt
parks-distinct next (w ∷ ws) (Reply text ∷ es) d = parks-distinct next ws es d.1
parks-distinct next (w ∷ ws) (Call t stage text ∷ es) d = (parks-none (bump next t) ws es w.client d.0, parks-distinct (bump next t) ws es d.1)

-- QUEUES

pub concat-head : (q : List (List Parked)) → concat q ≡ head_of q ++ concat (tail_of q)
concat-head [] = refl
concat-head (g ∷ gs) = refl

pub concat-push : (q : List (List Parked)) (g : List Parked) → concat (q ++ g ∷ []) ≡ concat q ++ g
concat-push [] g = append-nil g
concat-push (h ∷ q) g = ap (λ z. h ++ z) (concat-push q g) ∙ sym (append_assoc h (concat q) g)

-- FRESH

fresh-none : {B : Type 0} (m : Service B) (T : Tables) (seen : List ℕ) (es : List Entry) (c : ℕ) → mem c seen ≡ true
    → NoneOf c (map started (fresh_of m.programs T seen es))
fresh-none m T seen [] c e = tt
fresh-none m T seen (x ∷ es) c e = go (mem x.client seen) refl (fresh-none m T seen es c e) (is_fresh m.programs T x)
    (fresh-none m T (x.client ∷ seen) es c (or_right (x.client == c) (mem c seen) e))
  where
    go : (b : Bool) → mem x.client seen ≡ b → NoneOf c (map started (fresh_of m.programs T seen es)) → (f : Bool)
        → NoneOf c (map started (fresh_of m.programs T (x.client ∷ seen) es))
        → NoneOf c (map started
        (cond b (fresh_of m.programs T seen es)
        (cond f (x ∷ fresh_of m.programs T (x.client ∷ seen) es) (fresh_of m.programs T (x.client ∷ seen) es))))
    go true s r f q = r
    go false s r true q = ((λ g. absurd (let h : mem x.client seen ≡ true = ap (λ z. mem z seen) g ∙ e in cc)), q)
    go false s r false q = q

pub fresh-distinct : {B : Type 0} (m : Service B) (T : Tables) (seen : List ℕ) (es : List Entry) → Distinct (map started (fresh_of m.programs T seen es))
fresh-distinct m T seen [] = tt
fresh-distinct m T seen (x ∷ es) = go (mem x.client seen) (fresh-distinct m T seen es) (is_fresh m.programs T x) (fresh-distinct m T (x.client ∷ seen) es)
  where
    here : mem x.client (x.client ∷ seen) ≡ true
    here = let g = eq-eqb x.client x.client refl in rw g refl

    go : (b : Bool) → Distinct (map started (fresh_of m.programs T seen es)) → (f : Bool) → Distinct (map started (fresh_of m.programs T (x.client ∷ seen) es))
        → Distinct (map started
        (cond b (fresh_of m.programs T seen es)
        (cond f (x ∷ fresh_of m.programs T (x.client ∷ seen) es) (fresh_of m.programs T (x.client ∷ seen) es))))
    go true r f q = r
    go false r true q = (fresh-none m T (x.client ∷ seen) es x.client here, q)
    go false r false q = q

-- each fresh entry is fresh, and stands in the batch
pub fresh-at : {B : Type 0} (m : Service B) (T : Tables) (seen : List ℕ) (es : List Entry) (i : ℕ) (e : Entry)
    → slice_get (fresh_of m.programs T seen es) i ≡ Some e → (is_fresh m.programs T e ≡ true)
    × ((j : ℕ) × (slice_get es j ≡ Some e))
fresh-at m T seen [] i e f = absurd (cc)
fresh-at m T seen (x ∷ es) i e f = go (mem x.client seen) (is_fresh m.programs T x) refl i f
    (λ i f. fresh-at m T seen es i e f) (λ i f. fresh-at m T (x.client ∷ seen) es i e f)
  where
    later : (is_fresh m.programs T e ≡ true) × ((j : ℕ) × (slice_get es j ≡ Some e)) → (is_fresh m.programs T e ≡ true)
        × ((j : ℕ) × (slice_get (x ∷ es) j ≡ Some e))
    later r = (r.0, (suc r.1.0, r.1.1))

    go : (b f : Bool) → is_fresh m.programs T x ≡ f → (i : ℕ)
        → slice_get (cond b (fresh_of m.programs T seen es)
        (cond f (x ∷ fresh_of m.programs T (x.client ∷ seen) es) (fresh_of m.programs T (x.client ∷ seen) es))) i ≡ Some e
        → ((i : ℕ) → slice_get (fresh_of m.programs T seen es) i ≡ Some e → (is_fresh m.programs T e ≡ true) × ((j : ℕ) × (slice_get es j ≡ Some e)))
        → ((i : ℕ) → slice_get (fresh_of m.programs T (x.client ∷ seen) es) i ≡ Some e
        → (is_fresh m.programs T e ≡ true) × ((j : ℕ) × (slice_get es j ≡ Some e)))
        → (is_fresh m.programs T e ≡ true) × ((j : ℕ) × (slice_get (x ∷ es) j ≡ Some e))
    go true f k i g r q = later (r i g)
    go false true k zero g r q = let s : x ≡ e = cc in (subst (λ z. is_fresh m.programs T z ≡ true) s k, (0, ap Some s))
    go false true k (suc i) g r q = later (q i g)
    go false false k i g r q = later (q i g)

pub record IsFresh {B : Type 0} (m : Service B) (T : Tables) (e : Entry) : Type 0 where
  pub body : is_request m.programs (who_of e) e.body ≡ true
  pub seq : e.seq ≡ suc (last_of T.last e.client)
  pub range : in_range e ≡ true
  pub idle : parked_of e.client (concat T.queue) ≡ None

none_some : {A : Type 0} (o : Option A) → not (is_some o) ≡ true → o ≡ None
none_some None e = refl
none_some (Some a) e = absurd (cc)

pub is_fresh_parts : {B : Type 0} (m : Service B) (T : Tables) (e : Entry) → is_fresh m.programs T e ≡ true → IsFresh m T e
is_fresh_parts m T e f =
    let r = and_parts (in_range e) (is_request m.programs (who_of e) e.body && ((e.seq == suc (last_of T.last e.client)) && not (is_busy T e.client))) f in
    let p = and_parts (is_request m.programs (who_of e) e.body) ((e.seq == suc (last_of T.last e.client)) && not (is_busy T e.client)) r.1 in
    let q = and_parts (e.seq == suc (last_of T.last e.client)) (not (is_busy T e.client)) p.1 in
    record { body = p.0; seq = eqb-true e.seq (suc (last_of T.last e.client)) q.0; idle = none_some (parked_of e.client (concat T.queue)) q.1; range = r.0 }

-- an entry in range has a client up to 16, and so on
pub record InRange (e : Entry) : Type 0 where
  pub low : 1 ≤ e.client
  pub high : e.client ≤ 16
  pub seq : e.seq ≤ 65536

pub in_range_parts : (e : Entry) → in_range e ≡ true → InRange e
in_range_parts e f =
    let p = and_parts (nat_le 1 e.client && nat_le e.client 16) (nat_le e.seq 65536) f in
    let q = and_parts (nat_le 1 e.client) (nat_le e.client 16) p.0 in
    record { low = leb-true 1 e.client q.0; high = leb-true e.client 16 q.1; seq = leb-true e.seq 65536 p.1 }
