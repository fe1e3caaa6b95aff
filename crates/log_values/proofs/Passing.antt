-- A loop that passes over so many fields of one kind.
use Rattle.std.proofs.Common.{◌≡◌, ℕ, zero, suc, ◌+◌, ◌-◌, ◌<◌, ◌≤◌, List, [], ◌∷◌, length, Option, Some, None, refl, sym, ap, ◌∙◌, arith}
use Rattle.std.proofs.lemmas.Option.{same_Some}
use Rattle.aeg_wire.specs.Fields.{Read}
use Rattle.aeg_wire.specs.Formats.{made, list_at}
use Rattle.aeg_wire.proofs.Grammar.{bind_some, made_some}
use Rattle.log_values.specs.Reading.{left_after}

pub left_made : {A B : Type 0} (f : A → B) (read : Read A) → left_after (made f read) ≡ left_after read
left_made f (Some field) = refl
left_made f None = refl

pub none_left : {A : Type 0} (read : Read A) → left_after read ≡ None → read ≡ None
none_left None e = refl
none_left (Some field) e = absurd cc

pub pass_on : {A : Type 0} (one : List ℕ → Read A) (count i : ℕ) (bytes : List ℕ) (x : A) (after : List ℕ)
    (total : Option (List ℕ)) → i < count → one bytes ≡ Some (x, after)
    → left_after (list_at one (count - i) bytes) ≡ total → left_after (list_at one (count - (i + 1)) after) ≡ total
unfolding list_at
pass_on one count i bytes x after total lt h so_far =
    let k : count - i ≡ suc (count - (i + 1)) = omega arith in
    let step : left_after (list_at one (count - i) bytes) ≡ left_after (list_at one (count - (i + 1)) after) = rw (
      k,
      h,
    ) (left_made (λ others. x ∷ others) (list_at one (count - (i + 1)) after)) in
    sym step ∙ so_far

pub pass_end : {A : Type 0} (one : List ℕ → Read A) (count i : ℕ) (bytes : List ℕ) (total : Read (List A)) → i < count → one bytes ≡ None
    → left_after (list_at one (count - i) bytes) ≡ left_after total → total ≡ None
unfolding list_at
pass_end one count i bytes total lt h so_far =
    let k : count - i ≡ suc (count - (i + 1)) = omega arith in
    let step : left_after (list_at one (count - i) bytes) ≡ None = rw (k, h) refl in
    none_left total (sym so_far ∙ step)

pub pass_done : {A : Type 0} (one : List ℕ → Read A) (count i : ℕ) (bytes : List ℕ) (total : Option (List ℕ))
    → count ≤ i → left_after (list_at one (count - i) bytes) ≡ total → total ≡ Some bytes
unfolding list_at
pass_done one count i bytes total le so_far =
    let k : count - i ≡ 0 = omega arith in
    let step : left_after (list_at one (count - i) bytes) ≡ Some bytes = rw k refl in
    sym so_far ∙ step

-- so many fields are so many
pub list_length : {A : Type 0} (one : List ℕ → Read A) (n : ℕ) (bytes : List ℕ) (xs : List A) (rest : List ℕ)
    → list_at one n bytes ≡ Some (xs, rest) → length xs ≡ n
unfolding list_at
list_length one zero bytes xs rest e = ap (λ (p : List _ × List ℕ). length p.0) (sym (same_Some ([], bytes) (xs, rest) e))
list_length one (suc n) bytes xs rest e =
    let b = bind_some (one bytes) (λ x. made (λ others. x.0 ∷ others) (list_at one n x.1)) (xs, rest) e in
    let m = made_some (λ others. b.0.0 ∷ others) (list_at one n b.0.1) (xs, rest) b.2 in
    ap (λ (p : List _ × List ℕ). length p.0) (sym m.2) ∙ ap suc (list_length one n b.0.1 m.0.0 m.0.1 m.1)
