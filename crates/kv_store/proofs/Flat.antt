-- The columns' pairs as one list: sorted, without zeros, and what is found there.
use Rattle.std.proofs.Common.{◌≡◌, ◌≢◌, ℕ, zero, suc, ◌+◌, ◌<◌, ◌==◌, Bool, true, false, cond, not, T, List, [], ◌∷◌}
use Rattle.std.proofs.Common.{◌++◌, length, get_or, Option, Some, None, unwrap_or, refl, sym, ap, subst, ◌∙◌, inl, inr}
use Rattle.std.proofs.Common.{◌⊎◌, arith, Less, Equal, Ordering, length-append}
use Rattle.std.proofs.lemmas.Bool.Decides.{nat_tests, eqb_tells}
use Rattle.std.proofs.lemmas.Option.{none-some}
use Rattle.std.specs.Ordering.{nat_cmp, ordering_then, eq_by_cmp, is_lt}
use Rattle.std.specs.FinMap.Entries.{find, is_sorted, below_all}
use Rattle.aeg_base.specs.declared.names.Key.{Key}
use Rattle.aeg_base.specs.Numbers.{checked, is_canonical, no_zeros}
use Rattle.aeg_base.specs.Store.{Store, key_cmp, same_key, value_at, empty}
use Rattle.aeg_base.proofs.NumberLaws.{both, number_at-entries}
use Rattle.aeg_base.proofs.StoreLaws.{ties_same_key}
use Rattle.kv_store.specs.Columns.{Pairs, found, id_at, IsRising, IsColumn, keyed, all_pairs, count_of}
use Rattle.kv_store.proofs.Pairs.{found_absent}

abbrev pub key : ℕ → ℕ → Key
key class id = record { class = class; id = id }

-- WHAT IS FOUND

find-append : (q : Key) (xs ys : List (Key × ℕ)) → find key_cmp q (xs ++ ys) ≡ elim (find key_cmp q xs) [ None ↦ find key_cmp q ys | Some x ↦ Some x ]
find-append q [] ys = refl
find-append q (x ∷ xs) ys = at (eq_by_cmp key_cmp q x.0) (find-append q xs ys)
  where
    at : (b : Bool) → find key_cmp q (xs ++ ys) ≡ elim (find key_cmp q xs) [ None ↦ find key_cmp q ys | Some x ↦ Some x ]
        → cond b (Some x.1) (find key_cmp q (xs ++ ys)) ≡ elim (cond b (Some x.1) (find key_cmp q xs)) [ None ↦ find key_cmp q ys | Some x ↦ Some x ]
    at true h = refl
    at false h = h

same_class : (class id other : ℕ) → eq_by_cmp key_cmp (key class id) (key class other) ≡ (id == other)
same_class class id other = sym (ties_same_key.ties (key class id) (key class other)) ∙ at
  where
    at : same_key (key class id) (key class other) ≡ (id == other)
    at = grind (arith, nat_tests)

other_class : (a b id other : ℕ) → a ≢ b → eq_by_cmp key_cmp (key a id) (key b other) ≡ false
other_class a b id other ne = sym (ties_same_key.ties (key a id) (key b other)) ∙ at
  where
    at : same_key (key a id) (key b other) ≡ false
    at = grind (arith, nat_tests)

find-keyed : (class id : ℕ) (l : Pairs) → find key_cmp (key class id) (keyed class l) ≡ found l id
find-keyed class id [] = refl
find-keyed class id (p ∷ ps) =
    ap (λ b. cond b (Some p.1) (find key_cmp (key class id) (keyed class ps))) (same_class class id p.0)
    ∙ ap (cond (id == p.0) (Some p.1)) (find-keyed class id ps)

find-other : (a b id : ℕ) (l : Pairs) → a ≢ b → find key_cmp (key a id) (keyed b l) ≡ None
find-other a b id [] ne = refl
find-other a b id (p ∷ ps) ne =
    ap (λ c. cond c (Some p.1) (find key_cmp (key a id) (keyed b ps))) (other_class a b id p.0 ne) ∙ find-other a b id ps ne

find-later : (class id from : ℕ) (columns : List Pairs) → class < from → find key_cmp (key class id) (all_pairs from columns) ≡ None
find-later class id from [] lt = refl
find-later class id from (l ∷ ls) lt =
    find-append (key class id) (keyed from l) (all_pairs (from + 1) ls)
    ∙ ap (λ (o : Option ℕ). elim o [ None ↦ find key_cmp (key class id) (all_pairs (from + 1) ls) | Some x ↦ Some x ])
    (find-other class from id l (λ e. omega arith))
    ∙ find-later class id (from + 1) ls (omega arith)

or_none : (o : Option ℕ) → ◌≡◌ {A = Option ℕ} (elim o [ None ↦ None | Some x ↦ Some x ]) o
or_none None = refl
or_none (Some x) = refl

pub find-all : (class id from : ℕ) (columns : List Pairs) → find key_cmp (key (from + class) id) (all_pairs from columns) ≡ found (get_or columns class []) id
find-all class id from [] = refl
find-all zero id from (l ∷ ls) =
    ap (λ n. find key_cmp (key n id) (all_pairs from (l ∷ ls))) (let e : from + 0 ≡ from = omega arith in e)
    ∙ find-append (key from id) (keyed from l) (all_pairs (from + 1) ls)
    ∙ ap (λ (r : Option ℕ). elim (find key_cmp (key from id) (keyed from l)) [ None ↦ r | Some x ↦ Some x ]) (find-later from id (from + 1) ls (omega arith))
    ∙ or_none _ ∙ find-keyed from id l
find-all (suc class) id from (l ∷ ls) =
    find-append (key (from + suc class) id) (keyed from l) (all_pairs (from + 1) ls)
    ∙ ap (λ (o : Option ℕ). elim o
    [ None ↦ find key_cmp (key (from + suc class) id) (all_pairs (from + 1) ls) | Some x ↦ Some x ])
    (find-other (from + suc class) from id l (λ e. omega arith))
    ∙ ap (λ n. find key_cmp (key n id) (all_pairs (from + 1) ls)) (let e : from + suc class ≡ (from + 1) + class = omega arith in e)
    ∙ find-all class id (from + 1) ls

-- IN ORDER, WITHOUT ZEROS

below_class : (a b : ℕ) (id other : ℕ) → a < b → T (is_lt (key_cmp (key a id) (key b other)))
below_class a b id other lt = subst (λ (o : Ordering). T (is_lt (ordering_then o (nat_cmp id other)))) (sym less) tt
  where
    less : nat_cmp a b ≡ Less
    less = grind (arith, nat_tests)

below_id : (class id other : ℕ) → id < other → T (is_lt (key_cmp (key class id) (key class other)))
below_id class id other lt = subst (λ (o : Ordering). T (is_lt (ordering_then (nat_cmp class class) o))) (sym less)
    (subst (λ (o : Ordering). T (is_lt (ordering_then o Less))) (sym same) tt)
  where
    less : nat_cmp id other ≡ Less
    less = grind (arith, nat_tests)

    same : nat_cmp class class ≡ Equal
    same = grind (arith, nat_tests)

below_later : (class id from : ℕ) (l : Pairs) (rest : List (Key × ℕ)) → class < from
    → T (below_all key_cmp (key class id) rest) → T (below_all key_cmp (key class id) (keyed from l ++ rest))
below_later class id from [] rest lt h = h
below_later class id from (p ∷ ps) rest lt h = both _ _ (below_class class from id p.0 lt) (below_later class id from ps rest lt h)

below_columns : (class id from : ℕ) (columns : List Pairs) → class < from → T (below_all key_cmp (key class id) (all_pairs from columns))
below_columns class id from [] lt = tt
below_columns class id from (l ∷ ls) lt = below_later class id from l _ lt (below_columns class id (from + 1) ls (omega arith))

below_ids : (class id : ℕ) (l : Pairs) (rest : List (Key × ℕ)) → ((j : ℕ) → j < length l → id < id_at l j)
    → T (below_all key_cmp (key class id) rest) → T (below_all key_cmp (key class id) (keyed class l ++ rest))
below_ids class id [] rest low h = h
below_ids class id (p ∷ ps) rest low h = both _ _ (below_id class id p.0 (low 0 (omega arith)))
    (below_ids class id ps rest (λ j lt. low (suc j) (omega arith)) h)

pub rising_tail : (p : ℕ × ℕ) (ps : Pairs) → IsRising (p ∷ ps) → IsRising ps
rising_tail p ps h i j lt in_range = h (suc i) (suc j) (omega arith) (omega arith)

sorted_column : (class : ℕ) (l : Pairs) (rest : List (Key × ℕ)) → IsRising l
    → ((id : ℕ) → T (below_all key_cmp (key class id) rest)) → T (is_sorted key_cmp rest)
    → T (is_sorted key_cmp (keyed class l ++ rest))
sorted_column class [] rest h low s = s
sorted_column class (p ∷ ps) rest h low s =
    both _ _ (below_ids class p.0 ps rest (λ j lt. h 0 (suc j) (omega arith) (omega arith)) (low p.0)) (sorted_column class ps rest (rising_tail p ps h) low s)

first_id_alone : (p : ℕ × ℕ) (ps : Pairs) → IsRising (p ∷ ps) → found ps p.0 ≡ None
first_id_alone p ps h = found_absent ps p.0 (λ j lt same. omega (arith, h 0 (suc j) (omega arith) (omega arith)))

positive_tail : (p : ℕ × ℕ) (ps : Pairs) → IsRising (p ∷ ps) → ((id : ℕ) → found (p ∷ ps) id ≢ Some 0) → (id : ℕ) → found ps id ≢ Some 0
positive_tail p ps h pos id = at (id == p.0) (eqb_tells id p.0) (pos id)
  where
    at : (b : Bool) → ((b ≡ true) × (id ≡ p.0)) ⊎ ((b ≡ false) × (id ≢ p.0)) → (cond b (Some p.1) (found ps id) ≡ Some 0 → ⊥) → found ps id ≢ Some 0
    at true (inl z) never e = none-some 0 (sym (ap (found ps) z.1 ∙ first_id_alone p ps h) ∙ e)
    at true (inr z) never e = cc
    at false z never e = never e

positive_first : (p : ℕ × ℕ) (ps : Pairs) → ((id : ℕ) → found (p ∷ ps) id ≢ Some 0) → T (not (p.1 == 0))
positive_first p ps pos = at (p.1 == 0) (eqb_tells p.1 0)
  where
    self : (p.0 == p.0) ≡ true
    self = grind (arith, nat_tests)

    at : (b : Bool) → ((b ≡ true) × (p.1 ≡ 0)) ⊎ ((b ≡ false) × (p.1 ≢ 0)) → T (not b)
    at true (inl z) = absurd (pos p.0 (ap (λ c. cond c (Some p.1) (found ps p.0)) self ∙ ap (λ n. Some n) z.1))
    at true (inr z) = cc
    at false z = tt

positive_column : (class : ℕ) (l : Pairs) (rest : List (Key × ℕ)) → IsRising l → ((id : ℕ) → found l id ≢ Some 0)
    → T (no_zeros rest) → T (no_zeros (keyed class l ++ rest))
positive_column class [] rest h pos s = s
positive_column class (p ∷ ps) rest h pos s =
    both _ _ (positive_first p ps pos) (positive_column class ps rest (rising_tail p ps h) (positive_tail p ps h pos) s)

sorted_all : (from : ℕ) (columns : List Pairs) → ((class : ℕ) → IsColumn (get_or columns class [])) → T (is_sorted key_cmp (all_pairs from columns))
sorted_all from [] h = tt
sorted_all from (l ∷ ls) h =
    sorted_column from l (all_pairs (from + 1) ls) (h 0).rising
    (λ id. below_columns from id (from + 1) ls (omega arith)) (sorted_all (from + 1) ls (λ class. h (suc class)))

positive_all : (from : ℕ) (columns : List Pairs) → ((class : ℕ) → IsColumn (get_or columns class [])) → T (no_zeros (all_pairs from columns))
positive_all from [] h = tt
positive_all from (l ∷ ls) h = positive_column from l (all_pairs (from + 1) ls) (h 0).rising (h 0).positive
    (positive_all (from + 1) ls (λ class. h (suc class)))

-- HOW MANY

length-keyed : (class : ℕ) (l : Pairs) → length (keyed class l) ≡ length l
length-keyed class [] = refl
length-keyed class (p ∷ ps) = let h = length-keyed class ps in omega arith

length-all : (from : ℕ) (columns : List Pairs) → length (all_pairs from columns) ≡ count_of columns
length-all from [] = refl
length-all from (l ∷ ls) = let a = length-append (keyed from l) (all_pairs (from + 1) ls) in let b = length-keyed from
    l in let c = length-all (from + 1) ls in omega arith

-- THE STORE OF COLUMNS

entries-checked : (es : List (Key × ℕ)) (b : Bool) (e : is_canonical key_cmp es ≡ b) (m : Store) → T b → (checked es b e m).entries ≡ es
unfolding checked
entries-checked es true e m h = refl
entries-checked es false e m h = absurd h

abbrev pub store_of : List Pairs → Store
store_of columns = checked {R = key_cmp} (all_pairs 0 columns) _ refl empty

pub entries-store_of : (columns : List Pairs) → ((class : ℕ) → IsColumn (get_or columns class [])) → (store_of columns).entries ≡ all_pairs 0 columns
entries-store_of columns h = entries-checked (all_pairs 0 columns) _ refl empty (both _ _ (sorted_all 0 columns h) (positive_all 0 columns h))

pub value_at-store_of : (columns : List Pairs) → ((class : ℕ) → IsColumn (get_or columns class [])) → (q : Key)
    → value_at (store_of columns) q ≡ unwrap_or (found (get_or columns q.class []) q.id) 0
value_at-store_of columns h q =
    number_at-entries (store_of columns) q ∙ ap (λ es. unwrap_or (find key_cmp q es) 0) (entries-store_of columns h)
    ∙ ap (λ o. unwrap_or o 0)
    (ap (λ n. find key_cmp (key n q.id) (all_pairs 0 columns)) (let e : q.class ≡ 0 + q.class = omega arith in e)
    ∙ find-all q.class q.id 0 columns)

pub size-store_of : (columns : List Pairs) → ((class : ℕ) → IsColumn (get_or columns class [])) → length (store_of columns).entries ≡ count_of columns
size-store_of columns h = ap length (entries-store_of columns h) ∙ length-all 0 columns
