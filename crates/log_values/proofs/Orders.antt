-- A loop over an order, number by number, and what it comes to.
use Rattle.std.proofs.Common.{◌≡◌, ℕ, ◌+◌, ◌<◌, ◌≤◌, Bool, true, false, List, [], ◌∷◌, ◌++◌, length, get_or, take, drop}
use Rattle.std.proofs.Common.{refl, sym, ap, ◌∙◌, drop-cons, add-one, arith}
use Rattle.std.specs.Prelude.{nat_lt, not, ◌&&◌, ◌||◌, ◌==◌}
use Rattle.std.proofs.Math.Seq.{take-suc}
use Rattle.std.proofs.lemmas.List.Folds.{list_any-append}
use Rattle.std.proofs.lemmas.Bool.{or_from, and_from, and_parts, eq-eqb, eqb-true, or_left, or_right, or_parts}
use Rattle.std.proofs.lemmas.Bool.{not-true, not_from_false, false_from_ne_true, both_ways}
use Rattle.std.specs.Cmp.{both_ways as agree}
use Rattle.svc_api.specs.Orders.{times, all_below, each_once, is_order}
use Rattle.svc_api.proofs.Pigeons.{has, IsOnce}
use Rattle.svc_api.proofs.Orders.{same, once-at, once_in, order_of}
use Rattle.log_values.specs.Outcomes.{is_in}

-- each number from here on is below the count, and was none of the earlier ones
abbrev pub is_order_from : ℕ → List ℕ → List ℕ → Bool
is_order_from count earlier [] = true
is_order_from count earlier (n ∷ numbers) = nat_lt n count && (not (is_in n earlier) && is_order_from count (earlier ++ n ∷ []) numbers)

pub order_step : (order : List ℕ) (i count : ℕ) → i < length order
    → is_order_from count (take i order) (drop i order)
    ≡ (nat_lt (get_or order i 0) count
    && (not (is_in (get_or order i 0) (take i order)) && is_order_from count (take (i + 1) order) (drop (i + 1) order)))
order_step order i count lt = rw (add-one, drop-cons order i 0 lt, take-suc order i 0 lt) refl

-- IT COMES TO THE TEST OF AN ORDER

in_push : (z n : ℕ) (xs : List ℕ) → is_in z (xs ++ n ∷ []) ≡ (is_in z xs || (n == z))
in_push z n xs = list_any-append (λ m. m == z) xs (n ∷ []) ∙ ap (λ b. is_in z xs || b) (at (n == z))
  where
    at : (b : Bool) → (b || false) ≡ b
    at true = refl
    at false = refl

-- none of these numbers is one of the earlier ones
abbrev Apart : List ℕ → List ℕ → Type 0
Apart earlier xs = (z : ℕ) → has same xs z ≡ true → is_in z earlier ≡ false

loop_parts : (count : ℕ) (earlier xs : List ℕ) → is_order_from count earlier xs ≡ true → (all_below count xs ≡ true) × IsOnce same xs × Apart earlier xs
loop_parts count earlier [] e = (refl, tt, λ z h. absurd (cc h))
loop_parts count earlier (n ∷ ns) e =
    let p = and_parts (nat_lt n count) (not (is_in n earlier) && is_order_from count (earlier ++ n ∷ []) ns) e in
    let q = and_parts (not (is_in n earlier)) (is_order_from count (earlier ++ n ∷ []) ns) p.1 in
    let r = loop_parts count (earlier ++ n ∷ []) ns q.1 in (
      and_from (nat_lt n count) (all_below count ns) p.0 r.0,
      (
        false_from_ne_true (has same ns n)
            (λ h. both_ways (n == n) (or_parts (is_in n earlier) (n == n) (sym (in_push n n earlier) ∙ r.2 n h)).1
            (eq-eqb n n refl)),
        r.1,
      ),
      λ z h. at z (z == n) refl h (λ k. (or_parts (is_in z earlier) (n == z) (sym (in_push z n earlier) ∙ r.2 z k)).0) (not-true (is_in n earlier) q.0),
    )
  where
    at : (z : ℕ) (b : Bool) → (z == n) ≡ b → (b || has same ns z) ≡ true
        → (has same ns z ≡ true → is_in z earlier ≡ false) → is_in n earlier ≡ false → is_in z earlier ≡ false
    at z true e h r f = ap (λ k. is_in k earlier) (eqb-true z n e) ∙ f
    at z false e h r f = r h

loop_from : (count : ℕ) (earlier xs : List ℕ) → all_below count xs ≡ true → IsOnce same xs → Apart earlier xs → is_order_from count earlier xs ≡ true
loop_from count earlier [] a o apart = refl
loop_from count earlier (n ∷ ns) a o apart =
    let p = and_parts (nat_lt n count) (all_below count ns) a in
    and_from (nat_lt n count) _ p.0
    (and_from (not (is_in n earlier)) _ (not_from_false (is_in n earlier) (apart n (or_left (n == n) (has same ns n) (eq-eqb n n refl))))
    (loop_from count (earlier ++ n ∷ []) ns p.1 o.1 (λ z h. in_push z n earlier
    ∙ or_from (is_in z earlier) (n == z) (apart z (or_right (z == n) (has same ns z) h))
    (false_from_ne_true (n == z) (λ e. both_ways (has same ns n) o.0 (ap (λ k. has same ns k) (eqb-true n z e) ∙ h))))))

pub loop_is : (order : List ℕ) → is_order_from (length order) [] order ≡ is_order (length order) order
loop_is order = agree (is_order_from (length order) [] order) (is_order (length order) order)
    (λ e. let p = loop_parts (length order) [] order e in order_of (length order) order refl p.0 p.1)
    (λ e. let p = and_parts (all_below (length order) order) (each_once (length order) order) e in loop_from
    (length order) [] order p.0
    (once_in (length order) order p.0 (λ i l. at i (once-at (length order) i order l p.1))) (λ z h. refl))
  where
    at : (i : ℕ) → times i order ≡ 1 → times i order ≤ 1
    at i e = omega (arith, e)
