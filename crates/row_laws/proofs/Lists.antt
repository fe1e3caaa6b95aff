-- What holds of each item of a list.
use Rattle.std.proofs.Common.{◌≡◌, ℕ, ◌<◌, ◌≤◌, Bool, true, false, cond, List, [], ◌∷◌, ◌++◌, length, map}
use Rattle.std.proofs.Common.{refl, sym, ap, ◌∙◌, inl, inr, arith, Option, Some, None, zero, suc}
use Rattle.std.specs.Prelude.{slice_get, take, ◌⊎◌}
use Rattle.std.proofs.lemmas.Bool.{cases_eq, cond_both}
use Rattle.std.proofs.lemmas.List.{length-append}
use Rattle.std.specs.List.{All}
use Rattle.std.proofs.lemmas.List.Elements.{All-head, All-tail}
use Rattle.log_model.proofs.Basics.{Every, every-append}
use Rattle.round_model.specs.Lists.{each, at, put_at}

-- ONE FOR EACH

pub each_in : {A : Type 0} (P : A → Type 0) (n : ℕ) (skip : ℕ → Bool) (f : ℕ → A) → ((y : ℕ) → y < n → P (f y)) → Every P (each n skip f)
each_in P zero skip f k = tt
each_in P (suc n) skip f k = every-append P (each n skip f) _ (each_in P n skip f (λ y l. k y (omega (arith, l))))
    (cond_both (skip n) [] (f n ∷ []) (Every P) (λ e. tt) (λ e. (k n (omega arith), tt)))

pub each_few : {A : Type 0} (n : ℕ) (skip : ℕ → Bool) (f : ℕ → A) → length (each n skip f) ≤ n
each_few zero skip f = omega arith
each_few {A} (suc n) skip f =
    let last : length (cond {A = List A} (skip n) [] (f n ∷ [])) ≤ 1 = cond_both {A = List A} (skip n) [] (f n ∷ []) (λ z. length z ≤ 1) (λ e. omega arith)
    (λ e. omega arith) in
    omega (arith, length-append (each n skip f) (cond {A = List A} (skip n) [] (f n ∷ [])), each_few n skip f)

-- where one is skipped there is one less
pub each_less : {A : Type 0} (n : ℕ) (skip : ℕ → Bool) (f : ℕ → A) (x : ℕ) → x < n → skip x ≡ true → length (each n skip f) < n
each_less zero skip f x l e = absurd (omega (arith, l))
each_less {A} (suc n) skip f x l e = go (skip n) refl (each_less n skip f x)
  where
    go : (b : Bool) → skip n ≡ b → (x < n → skip x ≡ true → length (each n skip f) < n) → length (each n skip f ++ cond {A = List A} b [] (f n ∷ [])) < suc n
    go true g rest = omega (arith, length-append {A = A} (each n skip f) [], each_few n skip f)
    go false g rest = omega (arith, length-append (each n skip f) (f n ∷ []), before (cases_eq x n))
      where
        before : (x ≡ n) ⊎ (x ≡ n → ⊥) → length (each n skip f) < n
        before (inl h) = absurd (let k : skip n ≡ true = ap skip (sym h) ∙ e in cc)
        before (inr h) = rest (omega (arith, l, h)) e

-- PARTS OF LISTS

pub map_in : {A C : Type 0} (P : C → Type 0) (f : A → C) (xs : List A) → Every (λ a. P (f a)) xs → Every P (map f xs)
map_in P f [] k = tt
map_in P f (x ∷ xs) k = (k.0, map_in P f xs k.1)

-- LISTS IN TWO PARTS

pub every_left : {A : Type 0} (P : A → Type 0) (xs ys : List A) → Every P (xs ++ ys) → Every P xs
every_left P [] ys k = tt
every_left P (x ∷ xs) ys k = (k.0, every_left P xs ys k.1)

pub every_right : {A : Type 0} (P : A → Type 0) (xs ys : List A) → Every P (xs ++ ys) → Every P ys
every_right P [] ys k = k
every_right P (x ∷ xs) ys k = every_right P xs ys k.1

pub every_all : {A : Type 0} (P : A → Type 0) (xs : List A) → All P xs → Every P xs
every_all P [] k = tt
every_all P (x ∷ xs) k = (All-head P x xs k, every_all P xs (All-tail P x xs k))

pub every_both : {A : Type 0} (P Q R : A → Type 0) → ((a : A) → P a → Q a → R a) → (xs : List A) → Every P xs → Every Q xs → Every R xs
every_both P Q R f [] k l = tt
every_both P Q R f (x ∷ xs) k l = (f x k.0 l.0, every_both P Q R f xs k.1 l.1)

-- what holds of each item by its index
pub every_from : {A : Type 0} (P : A → Type 0) (xs : List A) → ((i : ℕ) (a : A) → slice_get xs i ≡ Some a → P a) → Every P xs
every_from P [] f = tt
every_from P (x ∷ xs) f = (f 0 x refl, every_from P xs (λ i a e. f (suc i) a e))

pub take_in : {A : Type 0} (P : A → Type 0) (n : ℕ) (xs : List A) → Every P xs → Every P (take n xs)
take_in P zero xs k = tt
take_in P (suc n) [] k = tt
take_in P (suc n) (x ∷ xs) k = (k.0, take_in P n xs k.1)

pub take_few : {A : Type 0} (n : ℕ) (xs : List A) → length (take n xs) ≤ n
take_few zero xs = omega arith
take_few (suc n) [] = omega arith
take_few (suc n) (x ∷ xs) = omega (arith, take_few n xs)

-- a place that is written, where places before it are filled up
pub put_at_in : {A : Type 0} (P : A → Type 0) (rest : A) (xs : List A) (i : ℕ) (a : A) → P rest → Every P xs → P a → Every P (put_at rest xs i a)
put_at_in P rest [] zero a r k p = (p, tt)
put_at_in P rest [] (suc i) a r k p = (r, put_at_in P rest [] i a r tt p)
put_at_in P rest (x ∷ xs) zero a r k p = (p, k.1)
put_at_in P rest (x ∷ xs) (suc i) a r k p = (k.0, put_at_in P rest xs i a r k.1 p)

pub at_in : {A : Type 0} (P : Option A → Type 0) (xs : List (Option A)) (i : ℕ) → P None → Every P xs → P (at None xs i)
at_in P [] i none k = none
at_in P (x ∷ xs) zero none k = k.0
at_in P (x ∷ xs) (suc i) none k = at_in P xs i none k.1
