-- Words on lists, on numbers, and on what there is for each tier.
pub use Rattle.svc_api.specs.Orders.{below}
use Rattle.std.specs.Prelude.{ℕ, zero, suc, Bool, true, false, not, List, [], ◌∷◌, ◌++◌, Option, Some, None, if◌then◌else◌}
use Rattle.aeg_base.specs.declared.names.Tier.{Tier}
use Rattle.aeg_base.specs.declared.names.Tier.TheVariants.{Mid, Inv, Pay}

abbrev pub is_some : {A : Type 0} → Option A → Bool
is_some None = false
is_some (Some a) = true

abbrev pub and_then : {A C : Type 0} → Option A → (A → Option C) → Option C
and_then None f = None
and_then (Some a) f = f a

abbrev pub is_nil : {A : Type 0} → List A → Bool
is_nil [] = true
is_nil (a ∷ xs) = false

-- the item at an index, or else what stands past the end
abbrev pub at : {A : Type 0} → A → List A → ℕ → A
at rest [] x = rest
at rest (a ∷ xs) zero = a
at rest (a ∷ xs) (suc x) = at rest xs x

-- the list with another item at the index; past its end it is filled up
abbrev pub put_at : {A : Type 0} → A → List A → ℕ → A → List A
put_at rest [] zero b = b ∷ []
put_at rest [] (suc x) b = rest ∷ put_at rest [] x b
put_at rest (a ∷ xs) zero b = b ∷ xs
put_at rest (a ∷ xs) (suc x) b = a ∷ put_at rest xs x b

abbrev pub concat : {A : Type 0} → List (List A) → List A
concat [] = []
concat (g ∷ gs) = g ++ concat gs

abbrev pub head_of : {A : Type 0} → List (List A) → List A
head_of [] = []
head_of (g ∷ gs) = g

abbrev pub tail_of : {A : Type 0} → List (List A) → List (List A)
tail_of [] = []
tail_of (g ∷ gs) = gs

-- f of each number below n, in order
abbrev pub tabulate : {A : Type 0} → ℕ → (ℕ → A) → List A
tabulate zero f = []
tabulate (suc n) f = f 0 ∷ tabulate n (λ i. f (suc i))

-- f of each number below n that isn't skipped, in order
abbrev pub each : {A : Type 0} → ℕ → (ℕ → Bool) → (ℕ → A) → List A
each zero skip f = []
each (suc n) skip f = each n skip f ++ (if skip n then [] else f n ∷ [])

-- the least number below n that passes the test
abbrev pub lowest : ℕ → (ℕ → Bool) → Option ℕ
lowest zero test = None
lowest (suc n) test = elim (lowest n test) [ None ↦ (if test n then Some n else None) | Some i ↦ Some i ]

-- a position of the middle log is odd where it has a verdict; that of round r is 2r+1, the batch's 2r
abbrev pub odd : ℕ → Bool
odd zero = false
odd (suc n) = not (odd n)

abbrev pub half : ℕ → ℕ
half zero = 0
half (suc n) = if odd n then suc (half n) else half n

-- one for each tier
pub record OfTiers (A : Type 0) : Type 0 where
  pub mid : A
  pub inv : A
  pub pay : A

abbrev pub of_tier : {A : Type 0} → OfTiers A → Tier → A
of_tier f Mid = f.mid
of_tier f Inv = f.inv
of_tier f Pay = f.pay

abbrev pub with_tier : {A : Type 0} → OfTiers A → Tier → A → OfTiers A
with_tier f Mid a = record f { mid = a }
with_tier f Inv a = record f { inv = a }
with_tier f Pay a = record f { pay = a }
