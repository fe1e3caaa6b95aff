-- Lists, counts and tests.
pub use Rattle.std.specs.List.{AllByRecursion as Every}
use Rattle.std.proofs.Common.{◌≡◌, ℕ, ◌+◌, ◌<◌, ◌≤◌, Bool, true, false, cond, List, [], ◌∷◌, ◌++◌, length}
use Rattle.std.proofs.Common.{length-append, refl, ap, subst, inl, inr, arith, Some, None, zero, suc, get_or, set}
use Rattle.std.specs.Prelude.{slice_get, nat_lt, ◌⊎◌, ◌==◌, ◌||◌, replicate}
use Rattle.std.proofs.lemmas.Bool.{cases_eq, cond_both, cond-false, eq-eqb, ltb-false, ne_eqb}
use Rattle.aeg_base.specs.declared.names.Ballot.{Ballot}
use Rattle.log_model.specs.declared.message.PaxMsg.{PaxMsg}
use Rattle.log_model.specs.Log.{has, seen_at, count_below, to_each}

pub every-append : {X : Type 0} (P : X → Type 0) (xs ys : List X) → Every P xs → Every P ys → Every P (xs ++ ys)
every-append P [] ys a b = b
every-append P (x ∷ xs) ys a b = (a.0, every-append P xs ys a.1 b)

pub every-weaker : {X : Type 0} (P Q : X → Type 0) → ((x : X) → P x → Q x) → (xs : List X) → Every P xs → Every Q xs
every-weaker P Q f [] a = tt
every-weaker P Q f (x ∷ xs) a = (f x a.0, every-weaker P Q f xs a.1)

pub every-get : {X : Type 0} (P : X → Type 0) (xs : List X) (k : ℕ) (x : X) → Every P xs → slice_get xs k ≡ Some x → P x
every-get P [] k x a e = absurd (cc)
every-get P (y ∷ ys) zero x a e = let same : y ≡ x = cc in subst P same a.0
every-get P (y ∷ ys) (suc k) x a e = every-get P ys k x a.1 e

-- ITEMS BY INDEX

pub get_left : {X : Type 0} (xs ys : List X) (k : ℕ) (x : X) → slice_get xs k ≡ Some x → slice_get (xs ++ ys) k ≡ Some x
get_left [] ys k x e = absurd (cc)
get_left (y ∷ xs) ys zero x e = e
get_left (y ∷ xs) ys (suc k) x e = get_left xs ys k x e

pub get_cases : {X : Type 0} (xs ys : List X) (i : ℕ) (a : X) → slice_get (xs ++ ys) i ≡ Some a
    → (slice_get xs i ≡ Some a) ⊎ ((j : ℕ) × (slice_get ys j ≡ Some a))
get_cases [] ys i a e = inr (i, e)
get_cases (x ∷ xs) ys zero a e = inl e
get_cases (x ∷ xs) ys (suc i) a e = get_cases xs ys i a e

pub get_within : {X : Type 0} (xs : List X) (k : ℕ) → k < length xs → (x : X) × (slice_get xs k ≡ Some x)
get_within [] k l = absurd (omega arith)
get_within (x ∷ xs) zero l = (x, refl)
get_within (x ∷ xs) (suc k) l = get_within xs k (omega arith)

-- one item more
pub get_end : {X : Type 0} (xs : List X) (a : X) → slice_get (xs ++ a ∷ []) (length xs) ≡ Some a
get_end [] a = refl
get_end (x ∷ xs) a = get_end xs a

pub get_push : {X : Type 0} (xs : List X) (y : X) (k : ℕ) (x : X) → slice_get (xs ++ y ∷ []) k ≡ Some x
    → (slice_get xs k ≡ Some x) ⊎ ((k ≡ length xs) × (y ≡ x))
get_push [] y zero x e = inr (refl, cc)
get_push [] y (suc k) x e = absurd (cc)
get_push (z ∷ xs) y zero x e = inl e
get_push {X} (z ∷ xs) y (suc k) x e = go (get_push xs y k x e)
  where
    go : (slice_get xs k ≡ Some x) ⊎ ((k ≡ length xs) × (y ≡ x)) → (slice_get xs k ≡ Some x) ⊎ ((suc k ≡ suc (length xs)) × (y ≡ x))
    go (inl f) = inl f
    go (inr f) = inr (ap suc f.0, f.1)

pub length_push : {X : Type 0} (xs : List X) (y : X) → length (xs ++ y ∷ []) ≡ suc (length xs)
length_push xs y = omega (arith, length-append xs (y ∷ []))

-- neither below nor above
pub between : (p n : ℕ) → nat_lt p n ≡ false → nat_lt n p ≡ false → p ≡ n
between p n a b = omega (arith, ltb-false p n a, ltb-false n p b)

-- COUNTS

abbrev pub Both : ℕ → (ℕ → Bool) → (ℕ → Bool) → Type 0
Both n f g = (x : ℕ) × (x < n) × (f x ≡ true) × (g x ≡ true)

meet_more : (n : ℕ) (f g : ℕ → Bool) (a b : Bool) → f n ≡ a → g n ≡ b → (n < count_below n f + count_below n g → Both n f g)
    → suc n < (cond a 1 0 + count_below n f) + (cond b 1 0 + count_below n g) → Both (suc n) f g
meet_more n f g true true p q r h = (n, omega arith, p, q)
meet_more n f g true false p q r h = let s : Both n f g = r (omega arith) in (s.0, omega arith, s.2, s.3)
meet_more n f g false true p q r h = let s : Both n f g = r (omega arith) in (s.0, omega arith, s.2, s.3)
meet_more n f g false false p q r h = let s : Both n f g = r (omega arith) in (s.0, omega arith, s.2, s.3)

-- two sets of more than half of the numbers below n meet
pub meet : (n : ℕ) (f g : ℕ → Bool) → n < count_below n f + count_below n g → Both n f g
meet zero f g h = absurd (omega arith)
meet (suc n) f g h = meet_more n f g (f n) (g n) refl refl (meet n f g) h

count-more_step : (n : ℕ) (f g : ℕ → Bool) (a b : Bool) → f n ≡ a → g n ≡ b → (a ≡ true → b ≡ true) → count_below n f ≤ count_below n g
    → cond a 1 0 + count_below n f ≤ cond b 1 0 + count_below n g
count-more_step n f g true true p q i r = omega arith
count-more_step n f g true false p q i r = absurd (let e : false ≡ true = i refl in cc)
count-more_step n f g false true p q i r = omega arith
count-more_step n f g false false p q i r = omega arith

pub count-more : (n : ℕ) (f g : ℕ → Bool) → ((x : ℕ) → f x ≡ true → g x ≡ true) → count_below n f ≤ count_below n g
count-more zero f g h = omega arith
count-more (suc n) f g h = count-more_step n f g (f n) (g n) refl refl (h n) (count-more n f g h)

-- one number more
pub count-one : (n a : ℕ) (f : ℕ → Bool) → a < n → f a ≡ false → count_below n (λ c. (a == c) || f c) ≡ suc (count_below n f)
count-one zero a f l e = absurd (omega arith)
count-one (suc n) a f l e = go (cases_eq a n) (count-one n a f)
  where
    other : (a == n) ≡ false → ◌≡◌ {A = ℕ} (cond ((a == n) || f n) 1 0) (cond (f n) 1 0)
    other g = rw g refl

    here : (a == n) ≡ true → ◌≡◌ {A = ℕ} (cond ((a == n) || f n) 1 0) 1
    here g = rw g refl

    same : (m : ℕ) → m ≤ a → count_below m (λ c. (a == c) || f c) ≡ count_below m f
    same zero l = refl
    same (suc m) l =
        let g : (a == m) ≡ false = ne_eqb a m (λ h. omega arith) in
        let h : ◌≡◌ {A = ℕ} (cond ((a == m) || f m) 1 0) (cond (f m) 1 0) = rw g refl in
        omega (arith, h, same m (omega arith))

    go : (a ≡ n) ⊎ (a ≡ n → ⊥) → (a < n → f a ≡ false → count_below n (λ c. (a == c) || f c) ≡ suc (count_below n f))
        → cond ((a == n) || f n) 1 0 + count_below n (λ c. (a == c) || f c) ≡ suc (cond (f n) 1 0 + count_below n f)
    go (inl g) rec =
        let z : ◌≡◌ {A = ℕ} (cond (f n) 1 0) 0 = cond-false {A = ℕ} (f n) 1 0 (subst (λ z. f z ≡ false) g e) in
        omega (arith, here (eq-eqb a n g), same n (omega arith), z)
    go (inr g) rec = omega (arith, other (ne_eqb a n g), rec (omega arith) e)

-- a message to each
pub every-to_each : {V : Type 0} (P : ℕ × PaxMsg V → Type 0) (n : ℕ) (skip : ℕ → Bool) (m : PaxMsg V) → ((y : ℕ) → P (y, m)) → Every P (to_each n skip m)
every-to_each P zero skip m h = tt
every-to_each P (suc n) skip m h = every-append P (to_each n skip m) _ (every-to_each P n skip m h)
    (cond_both (skip n) [] ((n, m) ∷ []) (Every P) (λ e. tt) (λ e. (h n, tt)))

-- what a list with one place set has at y
pub set_cases : {A : Type 0} (xs : List A) (s : ℕ) (a d r : A) (y : ℕ) → get_or (set xs s a) y d ≡ r → ((y ≡ s) × (a ≡ r)) ⊎ (get_or xs y d ≡ r)
set_cases [] s a d r y e = inr e
set_cases (x ∷ xs) zero a d r zero e = inl (refl, e)
set_cases (x ∷ xs) zero a d r (suc y) e = inr e
set_cases (x ∷ xs) (suc s) a d r zero e = inr e
set_cases {A} (x ∷ xs) (suc s) a d r (suc y) e = go (set_cases xs s a d r y e)
  where
    go : ((y ≡ s) × (a ≡ r)) ⊎ (get_or xs y d ≡ r) → ((suc y ≡ suc s) × (a ≡ r)) ⊎ (get_or xs y d ≡ r)
    go (inl f) = inl (ap suc f.0, f.1)
    go (inr f) = inr f

pub get_or-replicate : {A : Type 0} (n : ℕ) (d : A) (y : ℕ) → get_or (replicate n d) y d ≡ d
get_or-replicate zero d y = refl
get_or-replicate (suc n) d zero = refl
get_or-replicate (suc n) d (suc y) = get_or-replicate n d y

pub nothing_seen : (n y : ℕ) (b : Ballot) → seen_at (replicate n None) y ≡ Some b → ⊥
nothing_seen n y b e = let f : seen_at (replicate n None) y ≡ None = get_or-replicate n None y in cc

pub alone : (n x a : ℕ) → has (set (replicate n false) x true) a ≡ true → a ≡ x
alone n x a e = go (set_cases (replicate n false) x true false true a e)
  where
    go : ((a ≡ x) × (true ≡ true)) ⊎ (get_or (replicate n false) a false ≡ true) → a ≡ x
    go (inl f) = f.0
    go (inr f) = absurd (let g : get_or (replicate n false) a false ≡ false = get_or-replicate n false a in cc)
