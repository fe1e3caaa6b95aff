-- The pairs in which two stores differ, written to the one, give the other.
use Rattle.std.proofs.Common.{◌≡◌, ℕ, Bool, true, false, cond, T, List, [], ◌∷◌, refl, sym, ap, ◌∙◌, subst, inl, inr, Option, Some, None, unwrap_or}
use Rattle.std.specs.Prelude.{◌⊎◌, ◌==◌, if◌then◌else◌}
use Rattle.std.proofs.lemmas.Bool.{cond-true, cond-false, and_parts, and_from, eqb-true, eq-eqb}
use Rattle.std.specs.List.{AllByRecursion}
use Rattle.std.specs.Ordering.{eq_by_cmp, is_eq}
use Rattle.std.specs.declared.cmp.Ordering.{Ordering}
use Rattle.std.specs.declared.cmp.Ordering.TheVariants.{Less, Equal, Greater}
use Rattle.std.specs.FinMap.Entries.{find, put, by_order, is_sorted, find-put, is_sorted-put}
use Rattle.aeg_base.specs.declared.names.Key.{Key}
use Rattle.aeg_base.specs.Store.{Store, key_cmp, same_key, value_at, written, written_all, pairs_of}
use Rattle.aeg_base.proofs.NumberLaws.{number_at-entries}
use Rattle.aeg_base.proofs.StoreLaws.{key_cmp_total, key_cmp-IsAntisymmetric, value_at-written, same_store}
use Rattle.aeg_base.specs.Changes.{changed_among, changes}
use Rattle.std.specs.Option.{is_some}

abbrev IsAmong : Key → List (Key × ℕ) → Type 0
IsAmong q ps = is_some (find key_cmp q ps) ≡ true

tied : (o : Ordering) → is_eq o ≡ true → o ≡ Equal
tied Less e = absurd (cc)
tied Equal e = refl
tied Greater e = absurd (cc)

pub same_key_eq : (q k : Key) → eq_by_cmp key_cmp q k ≡ true → q ≡ k
same_key_eq q k e = key_cmp-IsAntisymmetric q k (tied (key_cmp q k) e)

pub key_parts : (q k : Key) → same_key q k ≡ true → q ≡ k
key_parts q k e =
    let p = and_parts (q.class == k.class) (q.id == k.id) e in
    let a : q.class ≡ k.class = eqb-true q.class k.class p.0 in
    let b : q.id ≡ k.id = eqb-true q.id k.id p.1 in
    λ i. record { class = a i; id = b i }

pub same_itself : (k : Key) → same_key k k ≡ true
same_itself k = and_from (k.class == k.class) (k.id == k.id) (eq-eqb k.class k.class refl) (eq-eqb k.id k.id refl)

-- WHAT HOLDS OF EACH CHANGE

all_put : (P : Key × ℕ → Type 0) (k : Key) (v : ℕ) (ps : List (Key × ℕ)) → P (k, v) → AllByRecursion P ps → AllByRecursion P (put key_cmp k v ps)
all_put P k v [] h a = (h, tt)
all_put P k v (e ∷ es) h a = at (key_cmp k e.0) refl (all_put P k v es h a.1)
  where
    at : (o : Ordering) → key_cmp k e.0 ≡ o → AllByRecursion P (put key_cmp k v es)
        → AllByRecursion P (by_order o ((k, v) ∷ e ∷ es) ((e.0, v) ∷ es) (e ∷ put key_cmp k v es))
    at Less c r = (h, a)
    at Equal c r = (subst (λ (z : Key). P (z, v)) (key_cmp-IsAntisymmetric k e.0 c) h, a.1)
    at Greater c r = (a.0, r)

pub all_among : (P : Key × ℕ → Type 0) (s t : Store)
    → ((k : Key) → (value_at s k == value_at t k) ≡ false → P (k, value_at t k)) → (es ps : List (Key × ℕ))
    → AllByRecursion P ps → AllByRecursion P (changed_among s t es ps)
all_among P s t h [] ps a = a
all_among P s t h (e ∷ es) ps a = all_among P s t h es
    (if value_at s e.0 == value_at t e.0 then ps else put key_cmp e.0 (value_at t e.0) ps)
    (go (value_at s e.0 == value_at t e.0) refl)
  where
    go : (b : Bool) → (value_at s e.0 == value_at t e.0) ≡ b → AllByRecursion P (cond b ps (put key_cmp e.0 (value_at t e.0) ps))
    go true f = a
    go false f = all_put P e.0 (value_at t e.0) ps (h e.0 f) a

-- each pair has the number that its key has in the store
abbrev HasNumber : Store → Key × ℕ → Type 0
HasNumber t e = e.1 ≡ value_at t e.0

-- WRITTEN BACK

some_cond : (b : Bool) (n : ℕ) (o : Option ℕ) → is_some o ≡ true → is_some (cond b (Some n) o) ≡ true
some_cond true n o e = refl
some_cond false n o e = e

among-put : (q k : Key) (n : ℕ) (ps : List (Key × ℕ)) → IsAmong q ps → IsAmong q (put key_cmp k n ps)
among-put q k n ps h = ap is_some (find-put key_cmp key_cmp_total q k n ps) ∙ some_cond (eq_by_cmp key_cmp q k) n (find key_cmp q ps) h

among-kept : (s t : Store) (q : Key) (es ps : List (Key × ℕ)) → IsAmong q ps → IsAmong q (changed_among s t es ps)
among-kept s t q [] ps h = h
among-kept s t q (e ∷ es) ps h = among-kept s t q es
    (if value_at s e.0 == value_at t e.0 then ps else put key_cmp e.0 (value_at t e.0) ps) (go (value_at s e.0 == value_at t e.0))
  where
    go : (b : Bool) → IsAmong q (cond b ps (put key_cmp e.0 (value_at t e.0) ps))
    go true = h
    go false = among-put q e.0 (value_at t e.0) ps h

among-changed : (s t : Store) (q : Key) (es ps : List (Key × ℕ)) → (value_at s q == value_at t q) ≡ false → IsAmong q es → IsAmong q (changed_among s t es ps)
among-changed s t q [] ps n h = absurd (cc)
among-changed s t q (e ∷ es) ps n h = go (eq_by_cmp key_cmp q e.0) refl h
    (among-changed s t q es (if value_at s e.0 == value_at t e.0 then ps else put key_cmp e.0 (value_at t e.0) ps) n)
  where
    there : List (Key × ℕ)
    there = if value_at s e.0 == value_at t e.0 then ps else put key_cmp e.0 (value_at t e.0) ps

    go : (b : Bool) → eq_by_cmp key_cmp q e.0 ≡ b → is_some (cond b (Some e.1) (find key_cmp q es)) ≡ true
        → (IsAmong q es → IsAmong q (changed_among s t es there)) → IsAmong q (changed_among s t es there)
    go false f g rec = rec g
    go true f g rec =
        let same : q ≡ e.0 = same_key_eq q e.0 f in
        let differ : (value_at s e.0 == value_at t e.0) ≡ false = subst (λ (z : Key). (value_at s z == value_at t z) ≡ false) same n in
        among-kept s t q es there (subst (IsAmong q) (sym (cond-false (value_at s e.0 == value_at t e.0) ps (put key_cmp e.0 (value_at t e.0) ps) differ))
        (ap is_some (find-put key_cmp key_cmp_total q e.0 (value_at t e.0) ps
        ∙ cond-true (eq_by_cmp key_cmp q e.0) (Some (value_at t e.0)) (find key_cmp q ps) f)))

written-true : (t : Store) (ps : List (Key × ℕ)) (s : Store) (q : Key) → AllByRecursion (HasNumber t) ps
    → (value_at s q ≡ value_at t q) ⊎ IsAmong q ps → value_at (written_all s ps) q ≡ value_at t q
written-true t [] s q a (inl e) = e
written-true t [] s q a (inr h) = absurd (cc)
written-true t (e ∷ es) s q a k = written-true t es (written s e.0 e.1) q a.1 (go (same_key q e.0) refl k)
  where
    read : (b : Bool) → same_key q e.0 ≡ b → value_at (written s e.0 e.1) q ≡ cond b e.1 (value_at s q)
    read b f = value_at-written s e.0 e.1 q ∙ ap (λ z. cond z e.1 (value_at s q)) f

    other : (b : Bool) → (b ≡ true → q ≡ e.0) → (q ≡ e.0 → ⊥) → is_some (cond b (Some e.1) (find key_cmp q es)) ≡ true → is_some (find key_cmp q es) ≡ true
    other true f n h = absurd (n (f refl))
    other false f n h = h

    apart : same_key q e.0 ≡ false → q ≡ e.0 → ⊥
    apart f g = absurd (let h : same_key e.0 e.0 ≡ false = subst (λ (z : Key). same_key z e.0 ≡ false) g f in let k = same_itself e.0 in cc)

    go : (b : Bool) → same_key q e.0 ≡ b → (value_at s q ≡ value_at t q) ⊎ IsAmong q (e ∷ es) → (value_at (written s e.0 e.1) q ≡ value_at t q) ⊎ IsAmong q es
    go true f k = inl (read true f ∙ a.0 ∙ ap (value_at t) (sym (key_parts q e.0 f)))
    go false f (inl g) = inl (read false f ∙ g)
    go false f (inr h) = inr (other (eq_by_cmp key_cmp q e.0) (same_key_eq q e.0) (apart f) h)

present : (s : Store) (q : Key) → (value_at s q == 0) ≡ false → IsAmong q (pairs_of s)
present s q n = go (find key_cmp q (pairs_of s)) (number_at-entries s q)
  where
    go : (o : Option ℕ) → value_at s q ≡ unwrap_or o 0 → is_some o ≡ true
    go None e = absurd (let f : (value_at s q == 0) ≡ true = eq-eqb (value_at s q) 0 e in cc)
    go (Some v) e = refl

covered : (s t : Store) (q : Key) → (value_at s q ≡ value_at t q) ⊎ IsAmong q (changes s t)
covered s t q = go (value_at s q == value_at t q) refl
  where
    either : (b : Bool) → (value_at s q == 0) ≡ b → (value_at s q == value_at t q) ≡ false → IsAmong q (changes s t)
    either false z n = among-kept s t q (pairs_of t) (changed_among s t (pairs_of s) []) (among-changed s t q (pairs_of s) [] n (present s q z))
    either true z n = among-changed s t q (pairs_of t) (changed_among s t (pairs_of s) []) n (present t q (not_zero (value_at t q == 0) refl))
      where
        not_zero : (b : Bool) → (value_at t q == 0) ≡ b → (value_at t q == 0) ≡ false
        not_zero false e = e
        not_zero true e = absurd (let f : value_at s q ≡ value_at t q = eqb-true (value_at s q) 0 z
            ∙ sym (eqb-true (value_at t q) 0 e) in let g = eq-eqb (value_at s q) (value_at t q) f in cc)

    go : (b : Bool) → (value_at s q == value_at t q) ≡ b → (value_at s q ≡ value_at t q) ⊎ IsAmong q (changes s t)
    go true e = inl (eqb-true (value_at s q) (value_at t q) e)
    go false e = inr (either (value_at s q == 0) refl e)

all_true : (s t : Store) → AllByRecursion (HasNumber t) (changes s t)
all_true s t =
    let h = λ (k : Key) (d : (value_at s k == value_at t k) ≡ false). refl {a = value_at t k} in
    all_among (HasNumber t) s t h (pairs_of t) (changed_among s t (pairs_of s) []) (all_among (HasNumber t) s t h (pairs_of s) [] tt)

pub written-changes : (s t : Store) → written_all s (changes s t) ≡ t
written-changes s t = same_store (written_all s (changes s t)) t (λ q. written-true t (changes s t) s q (all_true s t) (covered s t q))

-- WHAT CHANGED IS IN ORDER

pub sorted_among : (s t : Store) (es pairs : List (Key × ℕ)) → T (is_sorted key_cmp pairs) → T (is_sorted key_cmp (changed_among s t es pairs))
sorted_among s t [] pairs h = h
sorted_among s t (e ∷ es) pairs h = sorted_among s t es _ (at (value_at s e.0 == value_at t e.0))
  where
    at : (c : Bool) → T (is_sorted key_cmp (cond c pairs (put key_cmp e.0 (value_at t e.0) pairs)))
    at true = h
    at false = is_sorted-put key_cmp key_cmp_total e.0 (value_at t e.0) pairs h

pub sorted_changes : (s t : Store) → T (is_sorted key_cmp (changes s t))
sorted_changes s t = sorted_among s t (pairs_of t) _ (sorted_among s t (pairs_of s) [] tt)
