-- Writes that were broken off.
use Rattle.std.proofs.Common.{◌≡◌, ℕ, suc, ◌<◌, List, ◌∷◌, ◌++◌, length, take, drop, get_or, sym, ap, subst, ◌∙◌, append_assoc, drop-cons}
use Rattle.std.specs.List.{flat_map}
use Rattle.std.proofs.lemmas.Grind.{flat_map-append}
use Rattle.std.proofs.lemmas.List.{take-append-drop}
use Rattle.std.proofs.lemmas.List.Concat.{flat_map-cons}
use Rattle.aeg_wire.specs.Fields.{IsBegun}

-- all of the first part was written, and a front of the second
pub begun_past : (old mid new a b : List ℕ) → mid ≡ old ++ a → IsBegun mid new b → IsBegun old new (a ++ b)
begun_past old mid new a b e w = record {
  written = a ++ w.written;
  left = w.left;
  appended = w.appended ∙ ap (λ (m : List ℕ). m ++ w.written) e ∙ append_assoc old a w.written;
  parts = ap (λ (z : List ℕ). a ++ z) w.parts ∙ sym (append_assoc a w.written w.left);
}

-- a front of the first part was written
pub begun_front : (old new a b : List ℕ) → IsBegun old new a → IsBegun old new (a ++ b)
begun_front old new a b w = record {
  written = w.written;
  left = w.left ++ b;
  appended = w.appended;
  parts = ap (λ (z : List ℕ). z ++ b) w.parts ∙ append_assoc w.written w.left b;
}

-- the spellings of a list's items, cut at one of them
cut_at : {A : Type 0} (f : A → List ℕ) (xs : List A) (i : ℕ) (x : A) → i < length xs → x ≡ get_or xs i x
    → flat_map f xs ≡ flat_map f (take i xs) ++ (f x ++ flat_map f (drop (suc i) xs))
cut_at {A} f xs i x inside is =
    let rest : drop i xs ≡ x ∷ drop (suc i) xs = drop-cons xs i x inside ∙ ap (λ (y : A). y ∷ drop (suc i) xs) (sym is) in
    ap (flat_map f) (sym (take-append-drop i xs)) ∙ flat_map-append f (take i xs) (drop i xs)
    ∙ ap (λ (z : List ℕ). flat_map f (take i xs) ++ z) (ap (flat_map f) rest ∙ flat_map-cons f x (drop (suc i) xs))

-- the items before one were written, and a front of that one
pub begun_item : {A : Type 0} (f : A → List ℕ) (xs : List A) (i : ℕ) (x : A) (old mid new : List ℕ) → i < length xs → x ≡ get_or xs i x
    → mid ≡ old ++ flat_map f (take i xs) → IsBegun mid new (f x) → IsBegun old new (flat_map f xs)
begun_item f xs i x old mid new inside is before w =
    subst (λ (s : List ℕ). IsBegun old new s) (sym (cut_at f xs i x inside is))
    (begun_past old mid new (flat_map f (take i xs)) (f x ++ flat_map f (drop (suc i) xs)) before (begun_front mid new (f x) (flat_map f (drop (suc i) xs)) w))
