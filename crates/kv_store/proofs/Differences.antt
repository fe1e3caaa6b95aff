-- The keys that an undo list names whose values differ are all that differ from the list's start.
use Rattle.std.proofs.Common.{◌≡◌, ◌≢◌, ℕ, zero, suc, ◌==◌, Bool, true, false, cond, not, T, List, [], ◌∷◌, Option}
use Rattle.std.proofs.Common.{Some, None, is_some, unwrap_or, if◌then◌else◌, refl, sym, ap, subst, ◌∙◌, arith}
use Rattle.std.proofs.lemmas.Bool.Decides.{nat_tests}
use Rattle.std.specs.Ordering.{eq_by_cmp, is_lt}
use Rattle.std.specs.FinMap.Entries.{find, put, is_sorted, below_all, find-put, same_entries}
use Rattle.aeg_base.specs.declared.names.Key.{Key}
use Rattle.aeg_base.specs.Numbers.{no_zeros}
use Rattle.aeg_base.specs.Store.{Store, key_cmp, same_key, value_at, empty, pairs_of}
use Rattle.aeg_base.proofs.NumberLaws.{both, first, second, not_found_zero, number_at-entries}
use Rattle.aeg_base.proofs.StoreLaws.{key_cmp_total, key_cmp-IsAntisymmetric, value_at-written, value_at-empty}
use Rattle.aeg_base.proofs.ChangeLaws.{same_key_eq, sorted_changes}
use Rattle.kv_store.specs.Stores.{unwound, touched}
use Rattle.aeg_base.specs.Changes.{changed_among, changes}
use Rattle.kv_store.specs.Changes.{picked}
use Rattle.kv_store.proofs.Sizes.{sorted}

-- WHAT IS FOUND IN WHAT CHANGED

-- what a list of changes answers at a key
abbrev pub differs_at : Store → Store → Key → Option ℕ
differs_at s t q = if value_at s q == value_at t q then None else Some (value_at t q)

settle : (b c d : Bool) (o fx fp v w : Option ℕ) (n : ℕ) → fx ≡ cond b (cond c fp w) fp → (b ≡ true → d ≡ c)
    → (b ≡ true → v ≡ w) → cond (is_some o) (cond d fx v) fx ≡ cond (is_some (cond b (Some n) o)) (cond d fp v) fp
settle false c d o fx fp v w n x dc vw = ap (λ f. cond (is_some o) (cond d f v) f) x
settle true c d None fx fp v w n x dc vw = x ∙ ap (λ u. cond c fp u) (sym (vw refl)) ∙ ap (λ e. cond e fp v) (sym (dc refl))
settle true true d (Some m) fx fp v w n x dc vw = ap (λ e. cond e fx v) (dc refl) ∙ x ∙ ap (λ e. cond e fp v) (sym (dc refl))
settle true false d (Some m) fx fp v w n x dc vw = ap (λ e. cond e fx v) (dc refl) ∙ ap (λ e. cond e fp v) (sym (dc refl))

find-among : (s t : Store) (q : Key) (es pairs : List (Key × ℕ)) → find key_cmp q (changed_among s t es pairs)
    ≡ cond (is_some (find key_cmp q es)) (cond (value_at s q == value_at t q) (find key_cmp q pairs) (Some (value_at t q))) (find key_cmp q pairs)
find-among s t q [] pairs = refl
find-among s t q (e ∷ es) pairs =
    find-among s t q es (if equal then pairs else put key_cmp e.0 (value_at t e.0) pairs)
    ∙ settle ties equal (value_at s q == value_at t q) (find key_cmp q es)
    (find key_cmp q (if equal then pairs else put key_cmp e.0 (value_at t e.0) pairs)) (find key_cmp q pairs)
    (Some (value_at t q)) (Some (value_at t e.0)) e.1
    (there equal)
    (λ b. ap (λ k. value_at s k == value_at t k) (same_key_eq q e.0 b))
    (λ b. ap (λ k. Some (value_at t k)) (same_key_eq q e.0 b))
  where
    equal : Bool
    equal = value_at s e.0 == value_at t e.0

    ties : Bool
    ties = eq_by_cmp key_cmp q e.0

    there : (c : Bool) → find key_cmp q (cond c pairs (put key_cmp e.0 (value_at t e.0) pairs))
        ≡ cond ties (cond c (find key_cmp q pairs) (Some (value_at t e.0))) (find key_cmp q pairs)
    there true = one ties
      where
        one : (b : Bool) → find key_cmp q pairs ≡ cond b (find key_cmp q pairs) (find key_cmp q pairs)
        one true = refl
        one false = refl
    there false = find-put key_cmp key_cmp_total q e.0 (value_at t e.0) pairs

-- a key is found where its value is not 0
found_at : (s : Store) (q : Key) → is_some (find key_cmp q s.entries) ≡ not (value_at s q == 0)
found_at s q = at (find key_cmp q s.entries)
    (not_found_zero key_cmp q s.entries (second (is_sorted key_cmp s.entries) (no_zeros s.entries) s.canonical))
    ∙ ap (λ n. not (n == 0)) (sym (number_at-entries s q))
  where
    at : (o : Option ℕ) → o ≢ Some 0 → is_some o ≡ not (unwrap_or o 0 == 0)
    at None h = refl
    at (Some zero) h = absurd (h refl)
    at (Some (suc n)) h = let e : (suc n == 0) ≡ false = grind (arith, nat_tests) in sym (ap not e)

-- what differs is one of the keys of either store
either : (n m : ℕ) (o : Option ℕ)
    → cond (not (m == 0)) (cond (n == m) (cond (not (n == 0)) (cond (n == m) None (Some m)) None) (Some m))
    (cond (not (n == 0)) (cond (n == m) None (Some m)) None) ≡ cond (n == m) None (Some m)
either n m o = grind (arith, nat_tests)

find-changes : (s t : Store) (q : Key) → find key_cmp q (changes s t) ≡ differs_at s t q
find-changes s t q =
    find-among s t q (pairs_of t) (changed_among s t (pairs_of s) [])
    ∙ ap (λ (r : Option ℕ). cond (is_some (find key_cmp q (pairs_of t)))
    (cond (value_at s q == value_at t q) r (Some (value_at t q))) r) (find-among s t q (pairs_of s) [])
    ∙ ap (λ b. cond (is_some (find key_cmp q (pairs_of t)))
    (cond (value_at s q == value_at t q)
    (cond b (cond (value_at s q == value_at t q) None (Some (value_at t q))) None) (Some (value_at t q)))
    (cond b (cond (value_at s q == value_at t q) None (Some (value_at t q))) None)) (found_at s q)
    ∙ ap (λ b. cond b (cond (value_at s q == value_at t q)
    (cond (not (value_at s q == 0)) (cond (value_at s q == value_at t q) None (Some (value_at t q))) None)
    (Some (value_at t q)))
    (cond (not (value_at s q == 0)) (cond (value_at s q == value_at t q) None (Some (value_at t q))) None)) (found_at t q)
    ∙ either (value_at s q) (value_at t q) None

-- WHAT IS PICKED

below_picked : (s t : Store) (x : Key) (es : List (Key × ℕ)) → T (below_all key_cmp x es) → T (below_all key_cmp x (picked s t es))
below_picked s t x [] h = tt
below_picked s t x (e ∷ es) h = at (value_at t e.0 == value_at s e.0) (below_picked s t x es (second (is_lt (key_cmp x e.0)) _ h))
  where
    at : (c : Bool) → T (below_all key_cmp x (picked s t es)) → T (below_all key_cmp x (cond c (picked s t es) ((e.0, value_at t e.0) ∷ picked s t es)))
    at true r = r
    at false r = both _ _ (first (is_lt (key_cmp x e.0)) _ h) r

sorted_picked : (s t : Store) (es : List (Key × ℕ)) → T (is_sorted key_cmp es) → T (is_sorted key_cmp (picked s t es))
sorted_picked s t [] h = tt
sorted_picked s t (e ∷ es) h = at (value_at t e.0 == value_at s e.0) (sorted_picked s t es (second (below_all key_cmp e.0 es) _ h))
  where
    at : (c : Bool) → T (is_sorted key_cmp (picked s t es)) → T (is_sorted key_cmp (cond c (picked s t es) ((e.0, value_at t e.0) ∷ picked s t es)))
    at true r = r
    at false r = both _ _ (below_picked s t e.0 es (first (below_all key_cmp e.0 es) _ h)) r

pick_one : (b c d : Bool) (o v w : Option ℕ) (n : ℕ) → (b ≡ true → d ≡ c) → (b ≡ true → v ≡ w)
    → cond c (cond (is_some o) (cond d None v) None) (cond b w (cond (is_some o) (cond d None v) None))
    ≡ cond (is_some (cond b (Some n) o)) (cond d None v) None
pick_one false true d o v w n dc vw = refl
pick_one false false d o v w n dc vw = refl
pick_one true true d None v w n dc vw = ap (λ e. cond e None v) (sym (dc refl))
pick_one true true d (Some m) v w n dc vw = refl
pick_one true false d o v w n dc vw = sym (vw refl) ∙ ap (λ e. cond e None v) (sym (dc refl))

find-picked : (s t : Store) (q : Key) (es : List (Key × ℕ))
    → find key_cmp q (picked s t es)
    ≡ cond (is_some (find key_cmp q es)) (cond (value_at t q == value_at s q) None (Some (value_at t q))) None
find-picked s t q [] = refl
find-picked s t q (e ∷ es) =
    there (value_at t e.0 == value_at s e.0)
    ∙ ap (λ (r : Option ℕ). cond (value_at t e.0 == value_at s e.0) r (cond (eq_by_cmp key_cmp q e.0) (Some (value_at t e.0)) r)) (find-picked s t q es)
    ∙ pick_one (eq_by_cmp key_cmp q e.0) (value_at t e.0 == value_at s e.0) (value_at t q == value_at s q)
    (find key_cmp q es) (Some (value_at t q)) (Some (value_at t e.0)) e.1
    (λ b. ap (λ k. value_at t k == value_at s k) (same_key_eq q e.0 b))
    (λ b. ap (λ k. Some (value_at t k)) (same_key_eq q e.0 b))
  where
    there : (c : Bool) → find key_cmp q (cond c (picked s t es) ((e.0, value_at t e.0) ∷ picked s t es))
        ≡ cond c (find key_cmp q (picked s t es))
        (cond (eq_by_cmp key_cmp q e.0) (Some (value_at t e.0)) (find key_cmp q (picked s t es)))
    there true = refl
    there false = refl

-- an untouched key has the value that it had, and the others have it in what is written back alone
kept_or_back : (es : List (Key × ℕ)) (t : Store) (q : Key)
    → cond (value_at (touched es empty) q == 0) (value_at (unwound es t) q ≡ value_at t q)
    (value_at (unwound es empty) q ≡ value_at (unwound es t) q)
kept_or_back [] t q = subst (λ n. cond (n == 0) (value_at t q ≡ value_at t q) (value_at empty q ≡ value_at t q)) (sym (value_at-empty q)) refl
kept_or_back (e ∷ es) t q =
    subst (λ n. cond (n == 0) (value_at (unwound (e ∷ es) t) q ≡ value_at t q) (value_at (unwound (e ∷ es) empty) q
    ≡ value_at (unwound (e ∷ es) t) q)) (sym (value_at-written (touched es empty) e.0 1 q))
    (at (kept_or_back es t q) (same_key q e.0) (value_at-written (unwound es t) e.0 e.1 q) (value_at-written (unwound es empty) e.0 e.1 q))
  where
    by : (c : Bool) → cond c (value_at (unwound es t) q ≡ value_at t q) (value_at (unwound es empty) q ≡ value_at (unwound es t) q)
        → value_at (unwound (e ∷ es) t) q ≡ value_at (unwound es t) q → value_at (unwound (e ∷ es) empty) q ≡ value_at (unwound es empty) q
        → cond c (value_at (unwound (e ∷ es) t) q ≡ value_at t q) (value_at (unwound (e ∷ es) empty) q ≡ value_at (unwound (e ∷ es) t) q)
    by true h w v = w ∙ h
    by false h w v = v ∙ h ∙ sym w

    at : cond (value_at (touched es empty) q == 0) (value_at (unwound es t) q ≡ value_at t q)
        (value_at (unwound es empty) q ≡ value_at (unwound es t) q) → (b : Bool)
        → value_at (unwound (e ∷ es) t) q ≡ cond b e.1 (value_at (unwound es t) q) → value_at (unwound (e ∷ es) empty) q
        ≡ cond b e.1 (value_at (unwound es empty) q)
        → cond (cond b 1 (value_at (touched es empty) q) == 0) (value_at (unwound (e ∷ es) t) q ≡ value_at t q)
        (value_at (unwound (e ∷ es) empty) q ≡ value_at (unwound (e ∷ es) t) q)
    at ih true w v = v ∙ sym w
    at ih false w v = by (value_at (touched es empty) q == 0) ih w v

same_answer : (z : Bool) (b s t : ℕ) → cond z (s ≡ t) (b ≡ s) → cond (not z) (cond (t == b) None (Some t)) None ≡ cond (s == t) None (Some t)
same_answer true b s t h = let e : (s == t) ≡ true = grind (arith, nat_tests) in sym (ap (λ c. cond c None (Some t)) e)
same_answer false b s t h = let e : (t == b) ≡ (s == t) = grind (arith, nat_tests) in ap (λ c. cond c None (Some t)) e

-- the keys of an undo list whose values differ are all that changed
pub picked_changes : (es : List (Key × ℕ)) (t : Store) → picked (unwound es empty) t (pairs_of (touched es empty)) ≡ changes (unwound es t) t
picked_changes es t = same_entries key_cmp key_cmp_total key_cmp-IsAntisymmetric _ _
    (sorted_picked (unwound es empty) t (pairs_of (touched es empty)) (sorted (touched es empty)))
    (sorted_changes (unwound es t) t)
    (λ q. find-picked (unwound es empty) t q (pairs_of (touched es empty))
    ∙ ap (λ b. cond b (cond (value_at t q == value_at (unwound es empty) q) None (Some (value_at t q))) None) (found_at (touched es empty) q)
    ∙ same_answer (value_at (touched es empty) q == 0) (value_at (unwound es empty) q) (value_at (unwound es t) q) (value_at t q) (kept_or_back es t q)
    ∙ sym (find-changes (unwound es t) t q))
