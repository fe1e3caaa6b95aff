-- The clients of a job: they differ, so there are at most 16.
use Rattle.std.proofs.Common.{◌≡◌, ℕ, zero, suc, ◌+◌, ◌<◌, ◌≤◌, ◌⊎◌, inl, inr, ◌==◌, Bool, true, false, List, [], ◌∷◌, ◌++◌, map, length, Some, None}
use Rattle.std.proofs.Common.{if◌then◌else◌, nat_lt, get_or, eqb-true, subst, refl, sym, arith}
use Rattle.std.specs.List.{All}
use Rattle.std.proofs.lemmas.Bool.Decides.{nat_tests}
use Rattle.std.proofs.lemmas.List.Elements.{All-head, All-tail}
use Rattle.log_values.specs.declared.entry.Entry.{Entry}
use Rattle.round_model.specs.Service.{times}
use Rattle.round_model.specs.Tables.{Parked, parked_of}
use Rattle.pipeline.specs.Kept.{owner}
use Rattle.pipeline.specs.Jobs.{IsFree, client_of}

pub times-append : (c : ℕ) (xs ys : List ℕ) → times c (xs ++ ys) ≡ times c xs + times c ys
times-append c [] ys = omega arith
times-append c (x ∷ xs) ys = let e = times-append c xs ys in grind (arith, nat_tests)

-- AT MOST 16

-- how many of them are below n, number by number
abbrev counted : ℕ → List ℕ → ℕ
counted zero xs = 0
counted (suc n) xs = counted n xs + times n xs

counted_none : (n : ℕ) → counted n [] ≡ 0
counted_none zero = refl
counted_none (suc n) = omega (arith, counted_none n)

counted_cons : (n x : ℕ) (xs : List ℕ) → counted n (x ∷ xs) ≡ (if nat_lt x n then 1 else 0) + counted n xs
counted_cons zero x xs = grind (arith, nat_tests)
counted_cons (suc n) x xs = let e = counted_cons n x xs in grind (arith, nat_tests)

all_counted : (n : ℕ) (xs : List ℕ) → All (λ x. x < n) xs → length xs ≡ counted n xs
all_counted n [] h = sym (counted_none n)
all_counted n (x ∷ xs) h =
    let here : x < n = All-head (λ x. x < n) x xs h in
    let rest : length xs ≡ counted n xs = all_counted n xs (All-tail (λ x. x < n) x xs h) in
    let more : counted n (x ∷ xs) ≡ (if nat_lt x n then 1 else 0) + counted n xs = counted_cons n x xs in
    grind (arith, nat_tests)

few_counted : (n : ℕ) (xs : List ℕ) → ((c : ℕ) → times c xs ≤ 1) → times 0 xs ≡ 0 → counted (suc n) xs ≤ n
few_counted zero xs once none = omega arith
few_counted (suc n) xs once none = omega (arith, few_counted n xs once none, once (suc n))

none_zero : (xs : List ℕ) → All (λ x. (1 ≤ x) × (x ≤ 16)) xs → times 0 xs ≡ 0
none_zero [] h = refl
none_zero (x ∷ xs) h =
    let here : (1 ≤ x) × (x ≤ 16) = All-head (λ x. (1 ≤ x) × (x ≤ 16)) x xs h in
    let low : 1 ≤ x = here.0 in
    let rest : times 0 xs ≡ 0 = none_zero xs (All-tail (λ x. (1 ≤ x) × (x ≤ 16)) x xs h) in
    grind (arith, nat_tests)

pub at_most_16 : (xs : List ℕ) → All (λ x. (1 ≤ x) × (x ≤ 16)) xs → ((c : ℕ) → times c xs ≤ 1) → length xs ≤ 16
at_most_16 xs within once =
    let all : length xs ≡ counted 17 xs = all_counted 17 xs (λ k d lt. let w : (1 ≤ get_or xs k d) × (get_or xs k d ≤ 16) = within k d lt in omega arith) in
    omega (arith, few_counted 16 xs once (none_zero xs within))

-- CLIENTS THAT WAIT, AND THOSE OF FRESH ENTRIES

pub idle_none : (c : ℕ) (ps : List Parked) → parked_of c ps ≡ None → times c (map owner ps) ≡ 0
idle_none c [] h = refl
idle_none c (p ∷ ps) h = at (p.client == c) refl h (idle_none c ps)
  where
    at : (b : Bool) → (p.client == c) ≡ b → (if b then Some p else parked_of c ps) ≡ None → (parked_of c ps ≡ None → times c (map owner ps) ≡ 0)
        → (if b then 1 else 0) + times c (map owner ps) ≡ 0
    at true e k rest = absurd (cc)
    at false e k rest = omega (arith, rest k)

-- a client has no fresh entry, or none that waits
apart : (ps : List Parked) (es : List Entry) (c : ℕ) → All (IsFree ps) es → (times c (map client_of es) ≡ 0) ⊎ (times c (map owner ps) ≡ 0)
apart ps [] c h = inl refl
apart ps (e ∷ es) c h = at (e.client == c) refl (apart ps es c (All-tail (IsFree ps) e es h))
  where
    free : IsFree ps e
    free = All-head (IsFree ps) e es h

    at : (b : Bool) → (e.client == c) ≡ b → (times c (map client_of es) ≡ 0) ⊎ (times c (map owner ps) ≡ 0)
        → ((if b then 1 else 0) + times c (map client_of es) ≡ 0) ⊎ (times c (map owner ps) ≡ 0)
    at true s r = let same : e.client ≡ c = eqb-true e.client c s in inr (subst (λ z. times z (map owner ps) ≡ 0) same (idle_none e.client ps free.idle))
    at false s (inl z) = inl (omega (arith, z))
    at false s (inr z) = inr z

pub once_all : (ps : List Parked) (es : List Entry) → All (IsFree ps) es → ((c : ℕ) → times c (map owner ps) ≤ 1) → ((c : ℕ) → times c (map client_of es) ≤ 1)
    → (c : ℕ) → times c (map owner ps) + times c (map client_of es) ≤ 1
once_all ps es free waiting fresh c = elim (apart ps es c free) [ inl e ↦ omega (arith, waiting c) | inr e ↦ omega (arith, fresh c) ]
