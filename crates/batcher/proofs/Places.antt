-- The places of clients in a table.
use Rattle.std.proofs.Common.{◌≡◌, ℕ, ◌<◌, ◌≤◌, Bool, false, List, [], ◌∷◌, length, refl, ap, ◌∙◌, inl, inr, arith, Option, zero, suc, get_or}
use Rattle.std.specs.Prelude.{slice_set, replicate, ◌⊎◌}
use Rattle.round_model.specs.Lists.{at, put_at}
use Rattle.batcher.specs.Clients.{ClientTable}

at_is : {A : Type 0} (d e : A) (xs : List A) (i : ℕ) → i < length xs → get_or xs i e ≡ at d xs i
at_is d e [] i l = absurd (omega arith)
at_is d e (x ∷ xs) zero l = refl
at_is d e (x ∷ xs) (suc i) l = at_is d e xs i (omega arith)

put_is : {A : Type 0} (d : A) (xs : List A) (i : ℕ) (a : A) → i < length xs → slice_set xs i a ≡ put_at d xs i a
put_is d [] i a l = absurd (omega arith)
put_is d (x ∷ xs) zero a l = refl
put_is d (x ∷ xs) (suc i) a l = ap (λ ys. x ∷ ys) (put_is d xs i a (omega arith))

-- what stands at a client's place
pub read : {A : Type 0} (d e : A) (xs now : List A) (i c : ℕ) → xs ≡ now → length xs ≡ 17 → i ≡ c → c ≤ 16 → get_or xs i e ≡ at d now c
read d e xs now i c v n s l = at_is d e xs i (omega (arith, n, s)) ∙ (ap (λ z. at d xs z) s ∙ ap (λ z. at d z c) v)

-- what is written there
pub write : {A : Type 0} (d : A) (xs now : List A) (i c : ℕ) (a : A) → xs ≡ now → length xs ≡ 17 → i ≡ c → c ≤ 16 → slice_set xs i a ≡ put_at d now c a
write d xs now i c a v n s l = put_is d xs i a (omega (arith, n, s)) ∙ (ap (λ z. put_at d xs z a) s ∙ ap (λ z. put_at d z c a) v)

-- after a write, each place is the one written or as it was
pub at_cases : {A : Type 0} (d : A) (xs : List A) (i : ℕ) (a : A) (j : ℕ) → i < length xs
    → ((j ≡ i) × (at d (put_at d xs i a) j ≡ a)) ⊎ (at d (put_at d xs i a) j ≡ at d xs j)
at_cases d [] i a j l = absurd (omega arith)
at_cases d (x ∷ xs) zero a zero l = inl (refl, refl)
at_cases d (x ∷ xs) zero a (suc j) l = inr refl
at_cases d (x ∷ xs) (suc i) a zero l = inr refl
at_cases {A} d (x ∷ xs) (suc i) a (suc j) l = go (at_cases d xs i a j (omega arith))
  where
    go : ((j ≡ i) × (at d (put_at d xs i a) j ≡ a)) ⊎ (at d (put_at d xs i a) j ≡ at d xs j)
        → ((suc j ≡ suc i) × (at d (put_at d xs i a) j ≡ a)) ⊎ (at d (put_at d xs i a) j ≡ at d xs j)
    go (inl e) = inl (ap suc e.0, e.1)
    go (inr e) = inr e

pub at-false : (n i : ℕ) → at false (replicate n false) i ≡ false
at-false zero i = refl
at-false (suc n) zero = refl
at-false (suc n) (suc i) = at-false n i

pub table_is : (a b : List ℕ) (k j : List (Option (List ℕ))) (x y : List Bool) → a ≡ b → k ≡ j → x ≡ y
    → ◌≡◌ {A = ClientTable} (record { last = a; kept = k; busy = x }) (record { last = b; kept = j; busy = y })
table_is a b k j x y e f g = cc
