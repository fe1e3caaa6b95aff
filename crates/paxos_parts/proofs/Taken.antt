-- A list that is the front of a longer one: what one more write, and a count over it, are there.
use Rattle.std.proofs.Common.{◌≡◌, ℕ, ◌<◌, ◌≤◌, Bool, List, length, refl, sym, ap, ◌∙◌, arith, zero, suc, get_or, set, take}
use Rattle.std.proofs.lemmas.List.{get_or-take, length-take, length-take-le}
use Rattle.std.proofs.Math.Seq.{take-set-lt}
use Rattle.log_model.specs.Log.{count_below}

length_le : {A : Type 0} (n : ℕ) (xs : List A) → length (take n xs) ≤ n
length_le n xs = omega (arith, length-take n xs)

pub take_set : {A : Type 0} (n i : ℕ) (xs v : List A) (a : A) → take n xs ≡ v → i < length v → take n (set xs i a) ≡ set v i a
take_set n i xs v a e l = rw (← e) (take-set-lt n xs i a (omega (arith, length_le n xs, ap length e)))

pub read_front : {A : Type 0} (n i : ℕ) (xs v : List A) (d : A) → take n xs ≡ v → i < length v → get_or v i d ≡ get_or xs i d
read_front n i xs v d e l = rw (← e) (get_or-take n xs i d (omega (arith, length_le n xs, ap length e)))

count_same : (n : ℕ) (f g : ℕ → Bool) → ((i : ℕ) → i < n → f i ≡ g i) → count_below n f ≡ count_below n g
count_same zero f g h = refl
count_same (suc n) f g h = let here : f n ≡ g n = h n (omega arith) in let r : count_below n f
    ≡ count_below n g = count_same n f g (λ i l. h i (omega arith)) in rw (here, r) refl

-- the count over the front
pub count_front : {A : Type 0} (test : A → Bool) (n : ℕ) (xs v : List A) (d : A) → n ≤ length xs → take n xs ≡ v
    → count_below n (λ i. test (get_or xs i d)) ≡ count_below (length v) (λ i. test (get_or v i d))
count_front test n xs v d le e =
    let l : length v ≡ n = sym (ap length e) ∙ length-take-le n xs le in
    rw l (count_same n (λ i. test (get_or xs i d)) (λ i. test (get_or v i d)) (λ i k. ap test (sym (read_front n i xs v d e (omega (arith, l))))))
