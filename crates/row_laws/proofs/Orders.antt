-- An order of n numbers has n of them.
use Rattle.std.proofs.Common.{◌≡◌, ℕ, zero, suc, ◌+◌, ◌<◌, ◌≤◌, Bool, true, false, cond, List, [], ◌∷◌, length, length-append, refl, sym, arith}
use Rattle.std.specs.Prelude.{◌==◌, ◌||◌, nat_lt}
use Rattle.std.proofs.lemmas.Bool.{and_parts, eq-eqb, eqb-true, ltb-true}
use Rattle.svc_api.specs.Orders.{is_order, below, all_below, each_once, times}
use Rattle.svc_api.proofs.Orders.{order_short, once-at, once_in, same, job_order}
use Rattle.svc_api.proofs.Pigeons.{has, Tells, no_longer}

numbers_tell : Tells same
numbers_tell = record { equal = eqb-true; itself = λ x. eq-eqb x x refl }

-- a number of the list is below the bound
member_low : (n : ℕ) (xs : List ℕ) (z : ℕ) → all_below n xs ≡ true → has same xs z ≡ true → z < n
member_low n [] z a h = absurd (cc)
member_low n (x ∷ xs) z a h = at (z == x) refl h (member_low n xs z (and_parts (nat_lt x n) (all_below n xs) a).1)
  where
    at : (c : Bool) → (z == x) ≡ c → (c || has same xs z) ≡ true → (has same xs z ≡ true → z < n) → z < n
    at true e f r = omega (arith, eqb-true z x e, ltb-true x n (and_parts (nat_lt x n) (all_below n xs) a).0)
    at false e f r = r f

length_below : (n : ℕ) → length (below n) ≡ n
length_below zero = refl
length_below (suc n) = omega (arith, length_below n, length-append (below n) (n ∷ []))

-- a number that is counted stands in the list
counted_there : (i : ℕ) (xs : List ℕ) → times i xs ≡ 1 → has same xs i ≡ true
counted_there i [] e = absurd (omega (arith, e))
counted_there i (x ∷ xs) e = go (i == x) (x == i) refl refl e (counted_there i xs)
  where
    go : (b c : Bool) → (i == x) ≡ b → (x == i) ≡ c → cond c 1 0 + times i xs ≡ 1 → (times i xs ≡ 1 → has same xs i ≡ true) → (b || has same xs i) ≡ true
    go true c f g h r = refl
    go false true f g h r = absurd (let z : (i == x) ≡ true = eq-eqb i x (sym (eqb-true x i g)) in cc)
    go false false f g h r = r (omega (arith, h))

-- an order of n numbers has n
pub order_long : (n : ℕ) (order : List ℕ) → is_order n order ≡ true → length order ≡ n
order_long n order e =
    let p = and_parts (all_below n order) (each_once n order) e in
    let q = and_parts (all_below n (below n)) (each_once n (below n)) (job_order n) in
    let long : length (below n) ≤ length order = no_longer same numbers_tell (below n) order
    (once_in n (below n) q.0 (λ i l. let o = once-at n i (below n) l q.1 in omega (arith, o)))
    (λ z h. counted_there z order (once-at n z order (member_low n (below n) z q.0 h) p.1)) in
    omega (arith, order_short n order e, long, length_below n)
