-- What holds of each item of a list, or of a table by number.
use Rattle.std.proofs.Common.{ℕ, List, [], ◌∷◌, Option, Some, None, zero, suc, replicate}
use Rattle.std.specs.Prelude.{slice_set, slice_index_or, drop, nat_lt, ◌==◌, IfSome}
use Rattle.std.proofs.lemmas.Bool.{cond_both}
use Rattle.log_model.proofs.Basics.{Every}
use Rattle.round_model.specs.Numbered.{find, put, without, from}

pub drop_in : {A : Type 0} (P : A → Type 0) (n : ℕ) (xs : List A) → Every P xs → Every P (drop n xs)
drop_in P zero xs k = k
drop_in P (suc n) [] k = tt
drop_in P (suc n) (x ∷ xs) k = drop_in P n xs k.1

pub set_in : {A : Type 0} (P : A → Type 0) (xs : List A) (i : ℕ) (a : A) → Every P xs → P a → Every P (slice_set xs i a)
set_in P [] i a k p = tt
set_in P (x ∷ xs) zero a k p = (p, k.1)
set_in P (x ∷ xs) (suc i) a k p = (k.0, set_in P xs i a k.1 p)

pub index_in : {A : Type 0} (P : Option A → Type 0) (xs : List (Option A)) (i : ℕ) → Every P xs → P None → P (slice_index_or xs i None)
index_in P [] i k none = none
index_in P (x ∷ xs) zero k none = k.0
index_in P (x ∷ xs) (suc i) k none = index_in P xs i k.1 none

pub replicate_in : {A : Type 0} (P : A → Type 0) (n : ℕ) (a : A) → P a → Every P (replicate n a)
replicate_in P zero a p = tt
replicate_in P (suc n) a p = (p, replicate_in P n a p)

pub put_in : {A : Type 0} (P : ℕ × A → Type 0) (es : List (ℕ × A)) (n : ℕ) (a : A) → Every P es → P (n, a) → Every P (put es n a)
put_in P [] n a k p = (p, tt)
put_in P (e ∷ es) n a k p = cond_both (nat_lt e.0 n) _ _ (Every P) (λ t. (k.0, put_in P es n a k.1 p))
    (λ t. cond_both (e.0 == n) _ _ (Every P) (λ f. (p, k.1)) (λ f. (p, k)))

pub without_in : {A : Type 0} (P : ℕ × A → Type 0) (es : List (ℕ × A)) (n : ℕ) → Every P es → Every P (without es n)
without_in P [] n k = tt
without_in P (e ∷ es) n k = cond_both (e.0 == n) es (e ∷ without es n) (Every P) (λ t. k.1) (λ t. (k.0, without_in P es n k.1))

pub from_in : {A : Type 0} (P : ℕ × A → Type 0) (es : List (ℕ × A)) (n : ℕ) → Every P es → Every P (from es n)
from_in P [] n k = tt
from_in P (e ∷ es) n k = cond_both (nat_lt e.0 n) (from es n) (e ∷ es) (Every P) (λ t. from_in P es n k.1) (λ t. k)

-- what is found is in the table
pub find_in : {A : Type 0} (P : ℕ × A → Type 0) (Q : A → Type 0) (es : List (ℕ × A)) (n : ℕ) → ((m : ℕ) (a : A) → P (m, a) → Q a) → Every P es
    → IfSome (find es n) Q
find_in P Q [] n f k = tt
find_in P Q (e ∷ es) n f k = cond_both (e.0 == n) (Some e.1) (find es n) (λ o. IfSome o Q) (λ t. f e.0 e.1 k.0) (λ t. find_in P Q es n f k.1)
