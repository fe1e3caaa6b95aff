-- The first word of a text, and what digits stand for.
use Rattle.std.proofs.Common.{◌≡◌, ℕ, ◌+◌, ◌-◌, ◌*◌, ◌<◌, ◌≤◌, List, [], ◌∷◌, refl, ap, sym, ◌∙◌, take, drop, length}
use Rattle.std.proofs.Common.{get_or, eqb, cond, true, false, arith, suc, zero, fold, subst}
use Rattle.std.proofs.lemmas.Bool.{eqb-true, eq-eqb}
use Rattle.std.specs.List.{onto_first}
use Rattle.std.proofs.lemmas.List.Sums.{fold-append}
use Rattle.std.proofs.lemmas.List.{take-append-drop, length-drop}
use Rattle.std.proofs.Math.Seq.{take-length}
use Rattle.server_model.specs.Words.{parts_of, value_of}

pub other_than : (x p : ℕ) → (x ≡ p → ⊥) → eqb x p ≡ false
other_than x p n = (elim (eqb x p) as (λ b. eqb x p ≡ b → eqb x p ≡ false) [ true ↦ λ e. absurd (n (eqb-true x p e)) | false ↦ λ e. e ]) refl

-- the text up to a first separator is the first part
pub parts_of-at : (p : ℕ) (xs : List ℕ) (i : ℕ) → ((k : ℕ) → k < i → get_or xs k 0 ≡ p → ⊥) → i < length xs
    → get_or xs i 0 ≡ p → parts_of p xs ≡ take i xs ∷ parts_of p (drop (suc i) xs)
parts_of-at p [] i before within here = absurd (omega arith)
parts_of-at p (x ∷ xs) zero before within here = ap (λ b. cond b ([] ∷ parts_of p xs) (onto_first x (parts_of p xs))) (eq-eqb x p here)
parts_of-at p (x ∷ xs) (suc i) before within here =
    ap (λ b. cond b ([] ∷ parts_of p xs) (onto_first x (parts_of p xs))) (other_than x p (before 0 (omega arith)))
    ∙ ap (onto_first x) (parts_of-at p xs i (λ k h. before (suc k) (omega arith)) (omega arith) here)

-- a text without a separator is one part
pub parts_of-none : (p : ℕ) (xs : List ℕ) → ((k : ℕ) → k < length xs → get_or xs k 0 ≡ p → ⊥) → parts_of p xs ≡ xs ∷ []
parts_of-none p [] none = refl
parts_of-none p (x ∷ xs) none =
    ap (λ b. cond b ([] ∷ parts_of p xs) (onto_first x (parts_of p xs))) (other_than x p (none 0 (omega arith)))
    ∙ ap (onto_first x) (parts_of-none p xs (λ k h. none (suc k) (omega arith)))

-- there is a first part
pub first_of : (p : ℕ) (xs : List ℕ) → (y : List ℕ) × ((ys : List (List ℕ)) × (parts_of p xs ≡ y ∷ ys))
first_of p [] = ([], ([], refl))
first_of p (x ∷ xs) = (elim (eqb x p) as (λ b. (y : List ℕ) × ((ys : List (List ℕ)) × (cond b ([] ∷ parts_of p xs) (onto_first x (parts_of p xs)) ≡ y ∷ ys))) [
  | true ↦ ([], (parts_of p xs, refl))
  | false ↦ (let f = first_of p xs in (x ∷ f.0, (f.1.0, ap (onto_first x) f.1.1)))
])

-- digits behind others make no number less
pub read_on-le : (n : ℕ) (ds : List ℕ) → n ≤ fold (λ n c. 10 * n + (c - 48)) n ds
read_on-le n [] = omega arith
read_on-le n (c ∷ cs) = omega (arith, read_on-le (10 * n + (c - 48)) cs)

pub value_of-take-le : (ds : List ℕ) (k : ℕ) → value_of (take k ds) ≤ value_of ds
value_of-take-le ds k =
    let step : ℕ → ℕ → ℕ = λ n c. 10 * n + (c - 48) in
    let whole : fold step (value_of (take k ds)) (drop k ds) ≡ value_of ds = sym
    (fold-append step 0 (take k ds) (drop k ds)) ∙ ap (fold step 0) (take-append-drop k ds) in
    let P : ℕ → Type 0 = λ n. value_of (take k ds) ≤ n in
    subst P whole (read_on-le (value_of (take k ds)) (drop k ds))

-- `&xs[k..]` is the list without its first k
pub take-rest : {X : Type 0} (k : ℕ) (xs : List X) → take (length xs - k) (drop k xs) ≡ drop k xs
take-rest k xs = rw (← length-drop k xs) (take-length (drop k xs))
