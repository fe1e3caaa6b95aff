-- A sync that is noted at the last note.
use Rattle.std.proofs.Common.{◌≡◌, ℕ, zero, suc, Bool, true, false, cond, List, [], ◌∷◌, ◌++◌, length, reverse, get_or, slice_set, refl, sym, ap, ◌∙◌, arith}
use Rattle.std.proofs.lemmas.List.{reverse-append}
use Rattle.aeg_disk.specs.Memory.{mark_of}
use Rattle.aeg_disk.specs.Tape.{changes_of, length_after}
use Rattle.aeg_disk.specs.declared.note.Note.{Note}

-- the last item, and another in its place
set_last : {A : Type 0} (xs : List A) (k : ℕ) (x v : A) → length xs ≡ suc k → x ≡ get_or xs k x → (front : List A)
    × (xs ≡ front ++ x ∷ []) × (slice_set xs k v ≡ front ++ v ∷ [])
set_last [] k x v l e = absurd (cc)
set_last (y ∷ []) zero x v l e = ([], ap (λ z. z ∷ []) (sym e), refl)
set_last (y ∷ []) (suc k) x v l e = absurd (omega (arith, l))
set_last (y ∷ z ∷ ys) zero x v l e = absurd (omega (arith, l))
set_last (y ∷ z ∷ ys) (suc k) x v l e =
    let r = set_last (z ∷ ys) k x v (omega (arith, l)) e in
    (y ∷ r.0, ap (λ w. y ∷ w) r.1, ap (λ w. y ∷ w) r.2)

-- the note with and without a sync
abbrev noted : Bool → Note → Note
noted b n = record { place = n.place; count = n.count; before = n.before; replaced = n.replaced; settles = n.settles; synced = b }

unsynced : (n : Note) → n.synced ≡ false → (notes : List Note) (run : List ℕ) → changes_of (noted false n ∷ notes) run ≡ changes_of (n ∷ notes) run
unsynced n s notes run =
    let log = changes_of (noted false n ∷ notes) run in
    ap (λ (b : Bool). cond b (mark_of 0 0 (length_after n) true ∷ log) log) (sym s)

pub sync_noted : (notes : List Note) (k len : ℕ) (last : Note) → length notes ≡ suc k → last ≡ get_or notes k last
    → last.synced ≡ false → length_after last ≡ len → (run : List ℕ)
    → changes_of (reverse (slice_set notes k (noted true last))) run ≡ mark_of 0 0 len true ∷ changes_of (reverse notes) run
sync_noted notes k len last l e s long run =
    let r = set_last notes k last (noted true last) l e in
    let now = ap reverse r.2 ∙ reverse-append r.0 (noted true last ∷ []) in
    let was = ap reverse r.1 ∙ reverse-append r.0 (last ∷ []) in
    ap (λ z. changes_of z run) now
    ∙ ap (λ m. mark_of 0 0 m true ∷ changes_of (noted false last ∷ reverse r.0) run) long
    ∙ ap (λ z. mark_of 0 0 len true ∷ z) (unsynced last s (reverse r.0) run ∙ sym (ap (λ z. changes_of z run) was))
