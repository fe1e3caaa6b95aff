-- The grammars of lists of fields, and the loops that read them.
use Rattle.std.proofs.Common.{◌≡◌, ℕ, zero, suc, ◌+◌, ◌-◌, ◌<◌, ◌≤◌, List, [], ◌∷◌, ◌++◌, length, Some, None, refl, sym, ap, subst, ◌∙◌, append_assoc, arith}
use Rattle.std.specs.Prelude.{nat_le}
use Rattle.std.specs.List.{flat_map, AllByRecursion}
use Rattle.std.proofs.lemmas.List.{append-nil}
use Rattle.std.proofs.lemmas.List.Concat.{flat_map-cons}
use Rattle.std.proofs.lemmas.Bool.{le-leb, leb-true}
use Rattle.std.proofs.lemmas.Option.{same_Some}
use Rattle.aeg_wire.specs.Fields.{Read, byte_at}
use Rattle.aeg_wire.specs.Formats.{made, kept, list_at, counted_at}
use Rattle.aeg_wire.proofs.Grammar.{IsBytes, Takes, Takes-then, IsGrammar, bind_some, made_some, kept_some}
use Rattle.aeg_wire.proofs.Numbers.{one_byte}

list_takes : {A : Type 0} (fits : A → Type 0) (spelling : A → List ℕ) (one : List ℕ → Read A) → IsGrammar fits spelling one
    → (n : ℕ) (bytes : List ℕ) (xs : List A) (rest : List ℕ) → IsBytes bytes → list_at one n bytes ≡ Some (xs, rest)
    → Takes bytes (flat_map spelling xs) rest × ((length xs ≡ n) × AllByRecursion fits xs)
unfolding list_at
list_takes fits spelling one g zero bytes xs rest are e =
    subst (λ (p : List _ × List ℕ). Takes bytes (flat_map spelling p.0) p.1 × ((length p.0 ≡ 0) × AllByRecursion fits p.0)) (same_Some ([], bytes) (xs, rest) e)
    (record { parts = refl; rest_fits = are }, (refl, tt))
list_takes fits spelling one g (suc n) bytes xs rest are e =
    let b = bind_some (one bytes) (λ x. made (λ others. x.0 ∷ others) (list_at one n x.1)) (xs, rest) e in
    let m = made_some (λ others. b.0.0 ∷ others) (list_at one n b.0.1) (xs, rest) b.2 in
    let first = g.takes bytes b.0.0 b.0.1 are b.1 in
    let others = list_takes fits spelling one g n b.0.1 m.0.0 m.0.1 first.0.rest_fits m.1 in
    let all = Takes-then bytes (spelling b.0.0) b.0.1 (flat_map spelling m.0.0) m.0.1 first.0 others.0 in
    subst (λ (p : List _ × List ℕ). Takes bytes (flat_map spelling p.0) p.1 × ((length p.0 ≡ suc n) × AllByRecursion fits p.0)) m.2
    (rw flat_map-cons all, (ap suc others.1.0, (first.1, others.1.1)))

list_again : {A : Type 0} (fits : A → Type 0) (spelling : A → List ℕ) (one : List ℕ → Read A) → IsGrammar fits spelling one
    → (xs : List A) (rest : List ℕ) → AllByRecursion fits xs → list_at one (length xs) (flat_map spelling xs ++ rest) ≡ Some (xs, rest)
unfolding list_at
list_again fits spelling one g [] rest all = refl
list_again fits spelling one g (x ∷ xs) rest all =
    let regrouped : flat_map spelling (x ∷ xs) ++ rest ≡ spelling x
    ++ (flat_map spelling xs ++ rest) = ap (λ (z : List ℕ). z ++ rest) (flat_map-cons spelling x xs)
    ∙ append_assoc (spelling x) (flat_map spelling xs) rest in
    ap (list_at one (suc (length xs))) regrouped ∙ rw (g.again x (flat_map spelling xs ++ rest) all.0, list_again fits spelling one g xs rest all.1) refl

pub list_grammar : {A : Type 0} (fits : A → Type 0) (spelling : A → List ℕ) (one : List ℕ → Read A) → IsGrammar fits spelling one
    → (n : ℕ) → IsGrammar (λ xs. (length xs ≡ n) × AllByRecursion fits xs) (λ xs. flat_map spelling xs) (list_at one n)
list_grammar fits spelling one g n = record {
  takes = list_takes fits spelling one g n;
  again = λ xs rest fit. subst (λ (k : ℕ). list_at one k (flat_map spelling xs ++ rest) ≡ Some (xs, rest)) fit.0 (list_again fits spelling one g xs rest fit.1);
}

pub counted_grammar : {A : Type 0} (fits : A → Type 0) (spelling : A → List ℕ) (one : List ℕ → Read A) → IsGrammar fits spelling one
    → (limit : ℕ) → limit < 256 → IsGrammar (λ xs. (length xs ≤ limit) × AllByRecursion fits xs) (λ xs. length xs ∷ flat_map spelling xs) (counted_at limit one)
counted_grammar fits spelling one g limit small = record {
  takes = λ bytes xs rest are e.
      let b = bind_some (kept (λ n. nat_le n limit) (byte_at bytes)) (λ n. list_at one n.0 n.1) (xs, rest) e in
      let k = kept_some (λ n. nat_le n limit) (byte_at bytes) b.0 b.1 in
      let first = one_byte.takes bytes b.0.0 b.0.1 are k.0 in
      let others = list_takes fits spelling one g b.0.0 b.0.1 xs rest first.0.rest_fits b.2 in
      let all = Takes-then bytes (b.0.0 ∷ []) b.0.1 (flat_map spelling xs) rest first.0 others.0 in
      let below : b.0.0 ≤ limit = leb-true b.0.0 limit k.1 in
      (subst (λ (n : ℕ). Takes bytes (n ∷ flat_map spelling xs) rest) (sym others.1.0) all, (subst (λ (n : ℕ). n ≤ limit) (sym others.1.0) below, others.1.1));
  again = λ xs rest fit. rw (le-leb (length xs) limit fit.0, list_again fits spelling one g xs rest fit.1) refl;
}

-- ---- a loop over so many fields

-- what was read before, and what is still read
abbrev pub with_front : {A : Type 0} → List A → Read (List A) → Read (List A)
with_front front read = made (λ others. front ++ others) read

regroup : {A : Type 0} (front : List A) (x : A) (read : Read (List A)) → with_front front (made (λ others. x ∷ others) read) ≡ with_front (front ++ x ∷ []) read
regroup front x (Some field) = ap (λ (xs : List _). Some (xs, field.1)) (simp append_assoc)
regroup front x None = refl

pub goes_on : {A : Type 0} (one : List ℕ → Read A) (front : List A) (count i : ℕ) (bytes : List ℕ) (x : A)
    (after : List ℕ) (total : Read (List A)) → i < count → one bytes ≡ Some (x, after)
    → with_front front (list_at one (count - i) bytes) ≡ total → with_front (front ++ x ∷ []) (list_at one (count - (i + 1)) after) ≡ total
unfolding list_at
goes_on one front count i bytes x after total lt h so_far =
    let k : count - i ≡ suc (count - (i + 1)) = omega arith in
    let step : with_front front (list_at one (count - i) bytes)
    ≡ with_front (front ++ x ∷ []) (list_at one (count - (i + 1)) after) = rw (
      k,
      h,
    ) (regroup front x (list_at one (count - (i + 1)) after)) in
    sym step ∙ so_far

-- where a field isn't there, the list isn't
pub ends : {A : Type 0} (one : List ℕ → Read A) (front : List A) (count i : ℕ) (bytes : List ℕ) (total : Read (List A)) → i < count → one bytes ≡ None
    → with_front front (list_at one (count - i) bytes) ≡ total → total ≡ None
unfolding list_at
ends one front count i bytes total lt h so_far =
    let k : count - i ≡ suc (count - (i + 1)) = omega arith in
    let step : with_front front (list_at one (count - i) bytes) ≡ None = rw (k, h) refl in
    sym so_far ∙ step

pub is_done : {A : Type 0} (one : List ℕ → Read A) (front : List A) (count i : ℕ) (bytes : List ℕ)
    (total : Read (List A)) → count ≤ i → with_front front (list_at one (count - i) bytes) ≡ total → total ≡ Some (front, bytes)
unfolding list_at
is_done one front count i bytes total le so_far =
    let k : count - i ≡ 0 = omega arith in
    let step : with_front front (list_at one (count - i) bytes) ≡ Some (front, bytes) = rw k (ap (λ (xs : List _). Some (xs, bytes)) (append-nil front)) in
    sym so_far ∙ step
