-- How segments ended, by their places and by their numbers.
use Rattle.std.proofs.Common.{◌≡◌, ℕ, zero, suc, List, [], ◌∷◌, ◌++◌, length, get_or, replicate, map, unwrap_or, Option, refl, sym, ap, ◌∙◌, arith}
use Rattle.std.proofs.lemmas.List.{map-append, append_assoc, append-nil}
use Rattle.svc_api.specs.Plan.{Plan}
use Rattle.svc_api.specs.declared.action.Ending.{Ending}
use Rattle.exec_model.specs.Machine.{end_of}
use Rattle.exec_model.specs.Jobs.{said_nothing, below}
use Rattle.exec_core.specs.declared.machine.Slot.{Slot}
use Rattle.exec_core.specs.States.{progress_of, slot_progress}

-- how a segment ended, by what its slot has
abbrev pub slot_end : {P : Type 0} → (P → Option ℕ → Plan) → Slot P → Ending
slot_end plan slot = unwrap_or (end_of (slot_progress plan slot)) said_nothing

below_first : {B : Type 0} (f : ℕ → B) (n : ℕ) → map f (below (suc n)) ≡ f 0 ∷ map (λ i. f (suc i)) (below n)
below_first f zero = refl
below_first f (suc n) =
    map-append f (below (suc n)) (suc n ∷ [])
    ∙ ap (λ xs. xs ++ f (suc n) ∷ []) (below_first f n)
    ∙ ap (λ xs. f 0 ∷ xs) (sym (map-append (λ i. f (suc i)) (below n) (n ∷ [])))

pub ends_in_order : {P : Type 0} (plan : P → Option ℕ → Plan) (slots : List (Slot P))
    → map (slot_end plan) slots ≡ map (λ i. unwrap_or (end_of (progress_of plan slots i)) said_nothing) (below (length slots))
ends_in_order plan [] = refl
ends_in_order plan (x ∷ xs) =
    ap (λ es. slot_end plan x ∷ es) (ends_in_order plan xs)
    ∙ sym (below_first (λ i. unwrap_or (end_of (progress_of plan (x ∷ xs) i)) said_nothing) (length xs))

-- one more end, and one fewer slot
pub one_ended : {A B : Type 0} (f : A → B) (es es' : List B) (x : A) (xs ys : List A) (e : B) (all : List B)
    → xs ≡ x ∷ ys → es' ≡ es ++ e ∷ [] → e ≡ f x → es ++ map f xs ≡ all → es' ++ map f ys ≡ all
one_ended f es es' x xs ys e all a b c h =
    ap (λ zs. zs ++ map f ys) b ∙ append_assoc es (e ∷ []) (map f ys)
    ∙ ap (λ z. es ++ z ∷ map f ys) c ∙ ap (λ zs. es ++ map f zs) (sym a) ∙ h

pub none_left : {A B : Type 0} (f : A → B) (es : List B) (xs : List A) (all : List B) → length xs ≡ 0 → es ++ map f xs ≡ all → es ≡ all
none_left f es [] all z h = sym (append-nil es) ∙ h
none_left f es (x ∷ xs) all z h = absurd (omega arith)

pub no_holder : (n l : ℕ) → ◌≡◌ {A = ℕ} (get_or (replicate n 0) l 0) 0
no_holder zero l = refl
no_holder (suc n) zero = refl
no_holder (suc n) (suc l) = no_holder n l
