-- What a search by number finds in a table, and what an edit at that place does.
use Rattle.std.proofs.Common.{◌≡◌, ℕ, zero, suc, ◌<◌, true, List, [], ◌∷◌, length, get_or, set, drop, Some, None, Result, Ok, Err, IfOk, IfErr, OnErr, refl}
use Rattle.std.proofs.Common.{sym, ap, ◌∙◌, arith}
use Rattle.std.specs.List.{insert, remove}
use Rattle.std.specs.List.Sorted.{IsSearchInRange, IsBinarySearchResult, IsNonDecreasingBy}
use Rattle.std.specs.Ordering.{nat_cmp, ordering_index}
use Rattle.std.proofs.lemmas.Cmp.{ranked}
use Rattle.std.proofs.lemmas.Bool.Decides.{nat_tests}
use Rattle.round_model.specs.Numbered.{rises, find, put, without, from}
use Rattle.round_model.proofs.NumberedLaws.{numbers_rise, rises_put, rises_without, rises_from, without_none}
use Rattle.numbered.specs.Places.{IsAt, IsGapFor}

-- the comparisons with n rise along the list, as a binary search asks
comparisons_rise : {A : Type 0} (es : List (ℕ × A)) (n : ℕ) → rises 0 es ≡ true → IsNonDecreasingBy (λ (e : ℕ × A). ordering_index (nat_cmp e.0 n)) es
comparisons_rise es n h i j d le in_range =
    let same : i ≡ j → (get_or es i d).0 ≡ (get_or es j d).0 = λ e. ap (λ k. (get_or es k d).0) e in
    let up : i < j → (get_or es i d).0 < (get_or es j d).0 = λ lt. numbers_rise 0 es i j d h lt in_range in
    grind (arith, nat_tests, same, up)

-- a binary search by number ends at the number, or at the gap for it
pub searched : {A : Type 0} (es : List (ℕ × A)) (n : ℕ) → rises 0 es ≡ true → (r : Result ℕ ℕ) → IsSearchInRange r (length es)
    → IsBinarySearchResult (λ (e : ℕ × A). nat_cmp e.0 n) es r
    → record { found : IfOk r (IsAt es n); absent : IfErr r (IsGapFor es n) }
searched es n h (Ok at) in_range equal = record { found = record { in_range = in_range; has_number = λ d. ranked _ n _ (sym (equal d)) }; absent = tt }
searched es n h (Err at) in_range parted = record {
  found = tt;
  absent = record {
    in_range = in_range;
    smaller_before = λ j d lt. ranked _ n _ (sym ((parted (comparisons_rise es n h)).0 j d (omega arith) lt));
    greater_after = λ j d le lt. ranked _ n _ (sym ((parted (comparisons_rise es n h)).1 j d le lt));
  };
}

-- AT THE NUMBER

-- behind the first entry, a place is one lower
at_tail : {A : Type 0} (e : ℕ × A) (es : List (ℕ × A)) (n i : ℕ) → IsAt (e ∷ es) n (suc i) → IsAt es n i
at_tail e es n i h = record { in_range = omega (arith, h.in_range); has_number = λ d. h.has_number d }

first_below : {A : Type 0} (m : ℕ) (e : ℕ × A) (es : List (ℕ × A)) (n i : ℕ) → rises m (e ∷ es) ≡ true → IsAt (e ∷ es) n (suc i) → e.0 < n
first_below m e es n i h at =
    let up : e.0 < (get_or es i e).0 = numbers_rise m (e ∷ es) 0 (suc i) e h (omega arith) at.in_range in omega (arith, up, at.has_number e)

pub find_at : {A : Type 0} (m : ℕ) (es : List (ℕ × A)) (n i : ℕ) (d : ℕ × A) → rises m es ≡ true → IsAt es n i → find es n ≡ Some (get_or es i d).1
find_at m [] n i d h at = absurd (omega (arith, at.in_range))
find_at m (e ∷ es) n zero d h at = grind (arith, nat_tests, at.has_number d)
find_at m (e ∷ es) n (suc i) d h at =
    grind (arith, nat_tests, first_below m e es n i h at, find_at (suc e.0) es n i d (grind (arith, nat_tests)) (at_tail e es n i at))

pub put_at : {A : Type 0} (m : ℕ) (es : List (ℕ × A)) (n i : ℕ) (a : A) → rises m es ≡ true → IsAt es n i → put es n a ≡ set es i (n, a)
put_at m [] n i a h at = absurd (omega (arith, at.in_range))
put_at m (e ∷ es) n zero a h at = grind (arith, nat_tests, at.has_number e)
put_at m (e ∷ es) n (suc i) a h at =
    grind (arith, nat_tests, first_below m e es n i h at, put_at (suc e.0) es n i a (grind (arith, nat_tests)) (at_tail e es n i at))

pub without_at : {A : Type 0} (m : ℕ) (es : List (ℕ × A)) (n i : ℕ) → rises m es ≡ true → IsAt es n i → without es n ≡ remove es i
without_at m [] n i h at = absurd (omega (arith, at.in_range))
without_at m (e ∷ es) n zero h at = grind (arith, nat_tests, at.has_number e)
without_at m (e ∷ es) n (suc i) h at =
    grind (arith, nat_tests, first_below m e es n i h at, without_at (suc e.0) es n i (grind (arith, nat_tests)) (at_tail e es n i at))

pub from_at : {A : Type 0} (m : ℕ) (es : List (ℕ × A)) (n i : ℕ) → rises m es ≡ true → IsAt es n i → from es n ≡ drop i es
from_at m [] n i h at = absurd (omega (arith, at.in_range))
from_at m (e ∷ es) n zero h at = grind (arith, nat_tests, at.has_number e)
from_at m (e ∷ es) n (suc i) h at =
    grind (arith, nat_tests, first_below m e es n i h at, from_at (suc e.0) es n i (grind (arith, nat_tests)) (at_tail e es n i at))

-- IN THE GAP FOR IT

gap_tail : {A : Type 0} (e : ℕ × A) (es : List (ℕ × A)) (n i : ℕ) → IsGapFor (e ∷ es) n (suc i) → IsGapFor es n i
gap_tail e es n i h = record {
  in_range = omega (arith, h.in_range);
  smaller_before = λ j d lt. h.smaller_before (suc j) d (omega arith);
  greater_after = λ j d le lt. h.greater_after (suc j) d (omega arith) (omega arith);
}

-- a gap at the front stays one without the first entry
front_tail : {A : Type 0} (e : ℕ × A) (es : List (ℕ × A)) (n : ℕ) → IsGapFor (e ∷ es) n 0 → IsGapFor es n 0
front_tail e es n h = record {
  in_range = omega arith;
  smaller_before = λ j d lt. absurd (omega arith);
  greater_after = λ j d le lt. h.greater_after (suc j) d (omega arith) (omega arith);
}

pub find_gap : {A : Type 0} (es : List (ℕ × A)) (n i : ℕ) → IsGapFor es n i → find es n ≡ None
find_gap [] n i gap = refl
find_gap (e ∷ es) n zero gap = grind (arith, nat_tests, gap.greater_after 0 e (omega arith) (omega arith), find_gap es n 0 (front_tail e es n gap))
find_gap (e ∷ es) n (suc i) gap = grind (arith, nat_tests, gap.smaller_before 0 e (omega arith), find_gap es n i (gap_tail e es n i gap))

pub put_gap : {A : Type 0} (es : List (ℕ × A)) (n i : ℕ) (a : A) → IsGapFor es n i → put es n a ≡ insert es i (n, a)
put_gap [] n zero a gap = refl
put_gap [] n (suc i) a gap = absurd (omega (arith, gap.in_range))
put_gap (e ∷ es) n zero a gap = grind (arith, nat_tests, gap.greater_after 0 e (omega arith) (omega arith))
put_gap (e ∷ es) n (suc i) a gap = grind (arith, nat_tests, gap.smaller_before 0 e (omega arith), put_gap es n i a (gap_tail e es n i gap))

pub from_gap : {A : Type 0} (es : List (ℕ × A)) (n i : ℕ) → IsGapFor es n i → from es n ≡ drop i es
from_gap [] n zero gap = refl
from_gap [] n (suc i) gap = refl
from_gap (e ∷ es) n zero gap = grind (arith, nat_tests, gap.greater_after 0 e (omega arith) (omega arith))
from_gap (e ∷ es) n (suc i) gap = grind (arith, nat_tests, gap.smaller_before 0 e (omega arith), from_gap es n i (gap_tail e es n i gap))

-- A TABLE THAT ITS SEARCH SEES AS ANOTHER LIST: es are its rows, seen the list that is searched, and now what contracts see

pub found_there : {A : Type 0} (es seen now : List (ℕ × A)) (n i : ℕ) (e : ℕ × A) → rises 0 es ≡ true → seen ≡ es → es ≡ now → IsAt seen n i
    → e ≡ get_or es i e → Some e.1 ≡ find now n
found_there es seen now n i e h s v at is = let at' : IsAt es n i = rw (← s) at in rw (← v) (rw (find_at 0 es n i e h at') (ap (λ (x : ℕ × _). Some x.1) is))

pub found_nowhere : {A : Type 0} (es seen now : List (ℕ × A)) (n i : ℕ) → seen ≡ es → es ≡ now → IsGapFor seen n i → find now n ≡ None
found_nowhere es seen now n i s v gap = let gap' : IsGapFor es n i = rw (← s) gap in rw (← v) (find_gap es n i gap')

pub wrote : {A : Type 0} (es seen now : List (ℕ × A)) (n i : ℕ) (a : A) → rises 0 es ≡ true → seen ≡ es → es ≡ now → IsAt seen n i
    → set es i (n, a) ≡ put now n a
wrote es seen now n i a h s v at = let at' : IsAt es n i = rw (← s) at in rw (← v) (sym (put_at 0 es n i a h at'))

pub wrote_rises : {A : Type 0} (es seen : List (ℕ × A)) (n i : ℕ) (a : A) → rises 0 es ≡ true → seen ≡ es → IsAt seen n i → rises 0 (set es i (n, a)) ≡ true
wrote_rises es seen n i a h s at = let at' : IsAt es n i = rw (← s) at in rw (← put_at 0 es n i a h at') (rises_put 0 es n a (omega arith) h)

pub inserted : {A : Type 0} (es seen now new : List (ℕ × A)) (n i : ℕ) (a : A) → seen ≡ es → es ≡ now → IsGapFor seen n i → new ≡ insert es i (n, a)
    → new ≡ put now n a
inserted es seen now new n i a s v gap is = let gap' : IsGapFor es n i = rw (← s) gap in rw (← v) (is ∙ sym (put_gap es n i a gap'))

pub inserted_rises : {A : Type 0} (es seen new : List (ℕ × A)) (n i : ℕ) (a : A) → rises 0 es ≡ true → seen ≡ es → IsGapFor seen n i
    → new ≡ insert es i (n, a) → rises 0 new ≡ true
inserted_rises es seen new n i a h s gap is =
    let put_is : new ≡ put es n a = inserted es seen es new n i a s refl gap is in rw put_is (rises_put 0 es n a (omega arith) h)

pub removed : {A : Type 0} (es seen now new : List (ℕ × A)) (n i : ℕ) → rises 0 es ≡ true → seen ≡ es → es ≡ now → IsAt seen n i → new ≡ remove es i
    → new ≡ without now n
removed es seen now new n i h s v at is = let at' : IsAt es n i = rw (← s) at in rw (← v) (is ∙ sym (without_at 0 es n i h at'))

pub removed_rises : {A : Type 0} (es seen new : List (ℕ × A)) (n i : ℕ) → rises 0 es ≡ true → seen ≡ es → IsAt seen n i → new ≡ remove es i
    → rises 0 new ≡ true
removed_rises es seen new n i h s at is = let w : new ≡ without es n = removed es seen es new n i h s refl at is in rw w (rises_without 0 es n h)

pub removed_none : {A : Type 0} (es seen now : List (ℕ × A)) (n i : ℕ) → seen ≡ es → es ≡ now → IsGapFor seen n i → now ≡ without now n
removed_none es seen now n i s v gap = sym (without_none now n (found_nowhere es seen now n i s v gap))

pub dropped_rises : {A : Type 0} (es seen new : List (ℕ × A)) (n count : ℕ) → rises 0 es ≡ true → seen ≡ es → drop count seen ≡ from seen n
    → new ≡ drop count es → rises 0 new ≡ true
dropped_rises es seen new n count h s rest is = let rest' : drop count es ≡ from es n = rw (← s) rest in rw (is ∙ rest') (rises_from 0 es n h)

-- what holds, holds at an error too
pub whichever : {T E P : Type 0} (r : Result T E) → P → OnErr r P
whichever (Ok t) p = tt
whichever (Err e) p = p
