-- What a finite map of numbers holds after a write, and that maps which answer alike are equal.
use Rattle.std.proofs.Common.{◌≡◌, ◌≢◌, ℕ, Bool, true, false, cond, ◌==◌, ◌&&◌, not, List, [], ◌∷◌, if◌then◌else◌, refl}
use Rattle.std.proofs.Common.{sym, ap, subst, ◌∙◌, unwrap_or, None, Some, Option, eqb-true}
use Rattle.std.specs.Prelude.{T}
use Rattle.std.specs.Ordering.{eq_by_cmp}
use Rattle.std.specs.Cmp.{IsTotalOrder, eq_by_cmp_equiv, alike_right}
use Rattle.std.specs.declared.cmp.Ordering.{Ordering}
use Rattle.std.specs.declared.cmp.Ordering.TheVariants.{Less, Equal, Greater}
use Rattle.std.specs.FinMap.{IsAntisymmetric}
use Rattle.std.specs.FinMap.Entries.{find, put, where_key, is_sorted, by_order, find-put, find-where_key, is_sorted-put}
use Rattle.std.specs.FinMap.Entries.{is_sorted-where_key, same_entries as same_lists}
use Rattle.std.specs.Ordering.{is_eq}
use Rattle.aeg_base.specs.Numbers.{Numbers, no_numbers, no_zeros, is_canonical, same_entries, checked, number_at, entries_with, with_number}

pub both : (a b : Bool) → T a → T b → T (a && b)
both true b p q = q
both false b p q = p

pub first : (a b : Bool) → T (a && b) → T a
first true b p = tt
first false b p = p

pub second : (a b : Bool) → T (a && b) → T b
second true b p = p
second false b p = absurd p

-- A WRITE KEEPS THE ORDER

no_zeros-put : {K : Type 0} (R : K → K → Ordering) (k : K) (n : ℕ) (es : List (K × ℕ)) → T (not (n == 0)) → T (no_zeros es) → T (no_zeros (put R k n es))
no_zeros-put R k n [] p h = both (not (n == 0)) true p tt
no_zeros-put R k n (e ∷ es) p h = at (no_zeros-put R k n es p rest) (R k e.0)
  where
    rest : T (no_zeros es)
    rest = second (not (e.1 == 0)) (no_zeros es) h

    at : T (no_zeros (put R k n es)) → (o : Ordering) → T (no_zeros (by_order o ((k, n) ∷ e ∷ es) ((e.0, n) ∷ es) (e ∷ put R k n es)))
    at ih Less = both (not (n == 0)) _ p h
    at ih Equal = both (not (n == 0)) _ p rest
    at ih Greater = both (not (e.1 == 0)) _ (first (not (e.1 == 0)) (no_zeros es) h) ih

no_zeros-where_key : {K : Type 0} (R : K → K → Ordering) (p : K → Bool) (es : List (K × ℕ)) → T (no_zeros es) → T (no_zeros (where_key R p es))
no_zeros-where_key R p [] h = tt
no_zeros-where_key R p (e ∷ es) h = at (no_zeros-where_key R p es (second (not (e.1 == 0)) (no_zeros es) h)) (p e.0)
  where
    at : T (no_zeros (where_key R p es)) → (b : Bool) → T (no_zeros (cond b (e ∷ where_key R p es) (where_key R p es)))
    at ih true = both (not (e.1 == 0)) _ (first (not (e.1 == 0)) (no_zeros es) h) ih
    at ih false = ih

not_zero : (n : ℕ) → (n == 0) ≡ false → T (not (n == 0))
not_zero n e = subst (λ b. T (not b)) (sym e) tt

canonical-with : {K : Type 0} {R : K → K → Ordering} → IsTotalOrder R → (m : Numbers R) (k : K) (n : ℕ) → T (is_canonical R (entries_with R m.entries k n))
canonical-with {K} {R} o m k n = at (n == 0) refl
  where
    sorted : T (is_sorted R m.entries)
    sorted = first (is_sorted R m.entries) (no_zeros m.entries) m.canonical

    positive : T (no_zeros m.entries)
    positive = second (is_sorted R m.entries) (no_zeros m.entries) m.canonical

    at : (b : Bool) → (n == 0) ≡ b → T (is_canonical R (if b then where_key R (λ q. not (eq_by_cmp R k q)) m.entries else put R k n m.entries))
    at true e = both _ _ (is_sorted-where_key R _ m.entries sorted) (no_zeros-where_key R _ m.entries positive)
    at false e = both _ _ (is_sorted-put R o k n m.entries sorted) (no_zeros-put R k n m.entries (not_zero n e) positive)

entries-checked : {K : Type 0} {R : K → K → Ordering} (es : List (K × ℕ)) (b : Bool) (e : is_canonical R es ≡ b)
    (m : Numbers R) → T b → (checked es b e m).entries ≡ es
unfolding checked
entries-checked es true e m h = refl
entries-checked es false e m h = absurd h

-- the entries after a write
pub entries-with_number : {K : Type 0} {R : K → K → Ordering} → IsTotalOrder R → (m : Numbers R) (k : K) (n : ℕ)
    → (with_number m k n).entries ≡ entries_with R m.entries k n
unfolding with_number
entries-with_number {K} {R} o m k n = entries-checked (entries_with R m.entries k n) _ refl m (canonical-with o m k n)

-- WHAT A MAP ANSWERS

turned : {A : Type 0} (b : Bool) (x y : A) → cond (not b) x y ≡ cond b y x
turned true x y = refl
turned false x y = refl

find-with : {K : Type 0} {R : K → K → Ordering} → IsTotalOrder R → (es : List (K × ℕ)) (k : K) (n : ℕ) (q : K)
    → find R q (entries_with R es k n) ≡ cond (eq_by_cmp R q k) (if n == 0 then None else Some n) (find R q es)
find-with {K} {R} o es k n q = at (n == 0)
  where
    alike : (x : K) → R q x ≡ Equal → not (eq_by_cmp R k x) ≡ not (eq_by_cmp R k q)
    alike x t = ap (λ r. not (is_eq r)) (sym (alike_right o q x k t))

    at : (b : Bool) → find R q (if b then where_key R (λ x. not (eq_by_cmp R k x)) es else put R k n es)
        ≡ cond (eq_by_cmp R q k) (if b then None else Some n) (find R q es)
    at true = find-where_key R (λ x. not (eq_by_cmp R k x)) q alike es ∙ turned (eq_by_cmp R k q) (find R q es) None
        ∙ ap (λ b. cond b None (find R q es)) ((eq_by_cmp_equiv o).symm k q)
    at false = find-put R o q k n es

unwrapped : (same : Bool) (n : ℕ) (b : Bool) (o : Option ℕ) → (n == 0) ≡ b
    → unwrap_or (cond same (if b then None else Some n) o) 0 ≡ cond same n (unwrap_or o 0)
unwrapped true n true o e = sym (eqb-true n 0 e)
unwrapped true n false o e = refl
unwrapped false n b o e = refl

-- the written key has the number, and every other key what it had
pub number_at-with_number : {K : Type 0} {R : K → K → Ordering} → IsTotalOrder R
    → (m : Numbers R) (k : K) (n : ℕ) (q : K) → number_at (with_number m k n) q ≡ (if eq_by_cmp R q k then n else number_at m q)
unfolding number_at
number_at-with_number {K} {R} o m k n q =
    ap (λ es. unwrap_or (find R q es) 0) (entries-with_number o m k n)
    ∙ ap (λ o. unwrap_or o 0) (find-with o m.entries k n q)
    ∙ unwrapped (eq_by_cmp R q k) n (n == 0) (find R q m.entries) refl

pub number_at-no_numbers : {K : Type 0} (R : K → K → Ordering) (q : K) → number_at (no_numbers {R = R}) q ≡ 0
unfolding number_at
number_at-no_numbers R q = refl

-- the number of a key is that of its entry
pub number_at-entries : {K : Type 0} {R : K → K → Ordering} (m : Numbers R) (q : K) → number_at m q ≡ unwrap_or (find R q m.entries) 0
unfolding number_at
number_at-entries m q = refl

-- MAPS THAT ANSWER ALIKE

pub not_found_zero : {K : Type 0} (R : K → K → Ordering) (q : K) (es : List (K × ℕ)) → T (no_zeros es) → find R q es ≢ Some 0
not_found_zero R q [] h e = cc
not_found_zero R q (x ∷ es) h e = at (eq_by_cmp R q x.0) (not_found_zero R q es (second (not (x.1 == 0)) (no_zeros es) h)) e
  where
    positive : x.1 ≡ 0 → ⊥
    positive z = subst (λ n. T (not (n == 0))) z (first (not (x.1 == 0)) (no_zeros es) h)

    at : (b : Bool) → (find R q es ≢ Some 0) → cond b (Some x.1) (find R q es) ≡ Some 0 → ⊥
    at true ih e = positive (ap (λ o. unwrap_or o 0) e)
    at false ih e = ih e

same_option : (o p : Option ℕ) → o ≢ Some 0 → p ≢ Some 0 → unwrap_or o 0 ≡ unwrap_or p 0 → o ≡ p
same_option None None h g e = refl
same_option (Some m) (Some n) h g e = ap (λ n. Some n) e
same_option None (Some n) h g e = absurd (g (ap (λ n. Some n) (sym e)))
same_option (Some m) None h g e = absurd (h (ap (λ n. Some n) e))

-- two maps with the same number at each key are equal
pub same_numbers : {K : Type 0} {R : K → K → Ordering} → IsTotalOrder R → IsAntisymmetric R → (m n : Numbers R)
    → ((q : K) → number_at m q ≡ number_at n q) → m ≡ n
unfolding number_at
same_numbers {K} {R} o anti m n same = same_entries m n
    (same_lists R o anti m.entries n.entries (first _ (no_zeros m.entries) m.canonical) (first _ (no_zeros n.entries) n.canonical)
    (λ q. same_option (find R q m.entries) (find R q n.entries)
    (not_found_zero R q m.entries (second (is_sorted R m.entries) _ m.canonical))
    (not_found_zero R q n.entries (second (is_sorted R n.entries) _ n.canonical)) (same q)))
