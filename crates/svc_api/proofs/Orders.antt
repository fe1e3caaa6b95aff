-- An order of n numbers: its test says what its definition says, and a list of n numbers below n that has none twice is one.
use Rattle.std.proofs.Common.{◌≡◌, ℕ, zero, suc, ◌+◌, ◌<◌, ◌≤◌, Bool, true, false, cond, List, [], ◌∷◌, ◌++◌, length, refl, sym, ap, ◌∙◌, inl, inr, arith}
use Rattle.std.specs.Prelude.{◌⊎◌, ◌==◌, ◌||◌, nat_lt}
use Rattle.std.proofs.lemmas.Bool.Decides.{nat_tests}
use Rattle.std.proofs.lemmas.Bool.{and_from, and_parts, cases_eq, eq-eqb, eqb-true, lt-ltb, ltb-true, or_left, or_right}
use Rattle.svc_api.specs.Orders.{below, times, IsOrder, all_below, each_once, is_order}
use Rattle.svc_api.proofs.Pigeons.{has, IsOnce, Tells, no_longer}

-- THE TEST

all_in : (n : ℕ) (order : List ℕ) → ((i : ℕ) → 0 < times i order → i < n) → all_below n order ≡ true
all_in n [] h = refl
all_in n (x ∷ xs) h = and_from (nat_lt x n) (all_below n xs) (lt-ltb x n (h x here)) (all_in n xs (λ i l. h i (omega (arith, l))))
  where
    here : 0 < times x (x ∷ xs)
    here = let e : ◌≡◌ {A = ℕ} (cond (x == x) 1 0) 1 = ap {B = ℕ} (λ b. cond b 1 0) (eq-eqb x x refl) in omega (arith, e)

each_in : (n : ℕ) (order : List ℕ) → ((i : ℕ) → i < n → times i order ≡ 1) → each_once n order ≡ true
each_in zero order h = refl
each_in (suc n) order h = and_from (times n order == 1) (each_once n order)
    (eq-eqb (times n order) 1 (h n (omega arith))) (each_in n order (λ i l. h i (omega (arith, l))))

pub order_in : (n : ℕ) (order : List ℕ) → IsOrder n order → is_order n order ≡ true
order_in n order h = and_from (all_below n order) (each_once n order)
    (all_in n order (λ i l. inside i (nat_lt i n) refl l))
    (each_in n order (λ i l. h i ∙ ap {B = ℕ} (λ b. cond b 1 0) (lt-ltb i n l)))
  where
    inside : (i : ℕ) (b : Bool) → nat_lt i n ≡ b → 0 < times i order → i < n
    inside i true e l = ltb-true i n e
    inside i false e l = let z : ◌≡◌ {A = ℕ} (times i order) 0 = h i ∙ ap {B = ℕ} (λ b. cond b 1 0) e in absurd (omega (arith, z, l))

pub once-at : (n i : ℕ) (order : List ℕ) → i < n → each_once n order ≡ true → times i order ≡ 1
once-at zero i order l e = absurd (omega arith)
once-at (suc n) i order l e = go (and_parts (times n order == 1) (each_once n order) e) (cases_eq i n) (once-at n i order)
  where
    go : ((times n order == 1) ≡ true) × (each_once n order ≡ true) → (i ≡ n) ⊎ (i ≡ n → ⊥)
        → (i < n → each_once n order ≡ true → times i order ≡ 1) → times i order ≡ 1
    go p (inl f) r = ap (λ z. times z order) f ∙ eqb-true (times n order) 1 p.0
    go p (inr f) r = r (omega arith) p.1

-- NUMBERS IN A LIST

abbrev pub same : ℕ → ℕ → Bool
same a b = a == b

number_tells : Tells same
number_tells = record { equal = eqb-true; itself = λ x. eq-eqb x x refl }

-- a number that is there is counted
one_here : (x : ℕ) → ◌≡◌ {A = ℕ} (cond (x == x) 1 0) 1
one_here x = ap {B = ℕ} (λ b. cond b 1 0) (eq-eqb x x refl)

has_times : (x : ℕ) (xs : List ℕ) → has same xs x ≡ true → 0 < times x xs
has_times x [] h = absurd (cc)
has_times x (y ∷ ys) h = at (x == y) refl h (has_times x ys)
  where
    at : (c : Bool) → (x == y) ≡ c → (c || has same ys x) ≡ true → (has same ys x ≡ true → 0 < times x ys) → 0 < cond (y == x) 1 0 + times x ys
    at true e f rec = let g : ◌≡◌ {A = ℕ} (cond (y == x) 1 0) 1 = ap {B = ℕ} (λ b. cond b 1 0) (eq-eqb y x (sym (eqb-true x y e))) in omega (arith, g)
    at false e f rec = let g = rec f in omega (arith, g)

pub once_in : (n : ℕ) (xs : List ℕ) → all_below n xs ≡ true → ((i : ℕ) → i < n → times i xs ≤ 1) → IsOnce same xs
once_in n [] a h = tt
once_in n (x ∷ xs) a h =
    let p = and_parts (nat_lt x n) (all_below n xs) a in
    (none (has same xs x) refl (h x (omega (arith, ltb-true x n p.0))), once_in n xs p.1 (λ i l. omega (arith, h i l)))
  where
    none : (c : Bool) → has same xs x ≡ c → times x (x ∷ xs) ≤ 1 → c ≡ false
    none false e l = refl
    none true e l = let k = has_times x xs e in absurd (omega (arith, one_here x, k, l))

member_below : (n : ℕ) (xs : List ℕ) (z : ℕ) → all_below n xs ≡ true → has same xs z ≡ true → z < n
member_below n [] z a h = absurd (cc)
member_below n (x ∷ xs) z a h = at (z == x) refl h (member_below n xs z (and_parts (nat_lt x n) (all_below n xs) a).1)
  where
    at : (c : Bool) → (z == x) ≡ c → (c || has same xs z) ≡ true → (has same xs z ≡ true → z < n) → z < n
    at true e f rec = omega (arith, eqb-true z x e, ltb-true x n (and_parts (nat_lt x n) (all_below n xs) a).0)
    at false e f rec = rec f

-- all numbers below n
abbrev down : ℕ → List ℕ
down zero = []
down (suc n) = n ∷ down n

length-down : (n : ℕ) → length (down n) ≡ n
length-down zero = refl
length-down (suc n) = ap suc (length-down n)

has-down : (n i : ℕ) → i < n → has same (down n) i ≡ true
has-down zero i l = absurd (omega (arith, l))
has-down (suc n) i l = go (cases_eq i n) (has-down n i)
  where
    go : (i ≡ n) ⊎ (i ≡ n → ⊥) → (i < n → has same (down n) i ≡ true) → ((i == n) || has same (down n) i) ≡ true
    go (inl e) r = or_left (i == n) (has same (down n) i) (eq-eqb i n e)
    go (inr e) r = or_right (i == n) (has same (down n) i) (r (omega (arith, l, e)))

-- numbers below n of which none stands twice are at most n
few_below : (n : ℕ) (xs : List ℕ) → all_below n xs ≡ true → IsOnce same xs → length xs ≤ n
few_below n xs a o = omega (arith, length-down n, no_longer same number_tells xs (down n) o (λ z h. has-down n z (member_below n xs z a h)))

pub order_short : (n : ℕ) (order : List ℕ) → is_order n order ≡ true → length order ≤ n
order_short n order e =
    let p = and_parts (all_below n order) (each_once n order) e in
    few_below n order p.0 (once_in n order p.0 (λ i l. let o = once-at n i order l p.1 in omega (arith, o)))

-- AS MANY AS THEIR BOUND

no_times : (i : ℕ) (xs : List ℕ) → has same xs i ≡ false → times i xs ≡ 0
no_times i [] h = refl
no_times i (x ∷ xs) h = at (i == x) (x == i) refl refl h (no_times i xs)
  where
    at : (b c : Bool) → (i == x) ≡ b → (x == i) ≡ c → (b || has same xs i) ≡ false → (has same xs i ≡ false → times i xs ≡ 0) → cond c 1 0 + times i xs ≡ 0
    at true c e f h r = absurd (cc h)
    at false false e f h r = omega (arith, r h)
    at false true e f h r = let g : (i == x) ≡ true = eq-eqb i x (sym (eqb-true x i f)) in absurd (cc)

one_time : (i : ℕ) (xs : List ℕ) → IsOnce same xs → has same xs i ≡ true → times i xs ≡ 1
one_time i [] o h = absurd (cc h)
one_time i (x ∷ xs) o h = at (i == x) (x == i) refl refl h (one_time i xs o.1)
  where
    at : (b c : Bool) → (i == x) ≡ b → (x == i) ≡ c → (b || has same xs i) ≡ true → (has same xs i ≡ true → times i xs ≡ 1) → cond c 1 0 + times i xs ≡ 1
    at true true e f h r = omega (arith, no_times i xs (ap (λ z. has same xs z) (eqb-true i x e) ∙ o.0))
    at true false e f h r = let g : (x == i) ≡ true = eq-eqb x i (sym (eqb-true i x e)) in absurd (cc)
    at false true e f h r = let g : (i == x) ≡ true = eq-eqb i x (sym (eqb-true x i f)) in absurd (cc)
    at false false e f h r = omega (arith, r h)

has_all : (n : ℕ) (xs : List ℕ) → length xs ≡ n → all_below n xs ≡ true → IsOnce same xs → (i : ℕ) → i < n → has same xs i ≡ true
has_all n xs long a o i l = at (has same xs i) refl
  where
    at : (b : Bool) → has same xs i ≡ b → b ≡ true
    at true e = refl
    at false e = let k = few_below n (i ∷ xs) (and_from (nat_lt i n) (all_below n xs) (lt-ltb i n l) a) (e, o) in absurd (omega (arith, k, long))

pub order_of : (n : ℕ) (xs : List ℕ) → length xs ≡ n → all_below n xs ≡ true → IsOnce same xs → is_order n xs ≡ true
order_of n xs long a o = and_from (all_below n xs) (each_once n xs) a (each_in n xs (λ i l. one_time i xs o (has_all n xs long a o i l)))

-- JOB ORDER

pub times-append : (i : ℕ) (xs ys : List ℕ) → times i (xs ++ ys) ≡ times i xs + times i ys
times-append i [] ys = grind arith
times-append i (x ∷ xs) ys = let h = times-append i xs ys in omega arith

one_more : (i n : ℕ) → cond (nat_lt i n) 1 0 + (cond (n == i) 1 0 + 0) ≡ cond (nat_lt i (suc n)) 1 0
one_more i n = grind (arith, nat_tests)

pub below_order : (n : ℕ) → IsOrder n (below n)
below_order zero i = grind (arith, nat_tests)
below_order (suc n) i = times-append i (below n) (n ∷ []) ∙ ap (λ m. m + (cond (n == i) 1 0 + 0)) (below_order n i) ∙ one_more i n

pub job_order : (n : ℕ) → is_order n (below n) ≡ true
job_order n = order_in n (below n) (below_order n)
