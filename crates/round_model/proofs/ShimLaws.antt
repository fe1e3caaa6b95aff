-- Copies of calls: when their texts agree, and that they go on doing so.
use Rattle.std.proofs.Common.{◌≡◌, ℕ, zero, suc, ◌+◌, ◌*◌, ◌<◌, ◌≤◌, Bool, true, false, ◌&&◌, List, [], ◌∷◌, Option, Some, None, if◌then◌else◌, refl, sym, ap}
use Rattle.std.proofs.Common.{◌∙◌, ◌==◌, ◌⊎◌, inl, inr, arith}
use Rattle.std.specs.Prelude.{nat_lt}
use Rattle.std.proofs.lemmas.Bool.Decides.{nat_tests}
use Rattle.std.proofs.lemmas.List.{get_or-set_other}
use Rattle.std.proofs.lemmas.Slice.Eq.{bytes_eq-Decides}
use Rattle.log_model.specs.Log.{count_below}
use Rattle.log_model.proofs.Basics.{count-more}
use Rattle.round_model.specs.Lists.{is_some, and_then, lowest}
use Rattle.round_model.specs.Numbered.{rises, find, first}
use Rattle.round_model.proofs.NumberedLaws.{find_picked, rises_picked, first_found, first_least}
use Rattle.round_model.specs.Shims.{ShimState, no_copies, copies_or_none, copies_at, ready_calls, ready, AreWaiting, IsLeastReady, IsNoneReady, floor_at}
use Rattle.round_model.specs.Shims.{many_at_least, is_more, due_among, due, IsGreatestTold, copy_of, with_copy, is_text, givers}
use Rattle.round_model.specs.Shims.{is_backed, agreed}

-- THE LOWEST NUMBER THAT PASSES

-- the lowest below n, or else n where it passes
abbrev or_last : Option ℕ → Bool → ℕ → Option ℕ
or_last None b n = if b then Some n else None
or_last (Some i) b n = Some i

lowest_suc : (n : ℕ) (test : ℕ → Bool) → lowest (suc n) test ≡ or_last (lowest n test) (test n) n
lowest_suc n test = step (lowest n test)
  where
    step : (o : Option ℕ) → elim o [ None ↦ (if test n then Some n else None) | Some i ↦ Some i ] ≡ or_last o (test n) n
    step None = refl
    step (Some i) = refl

-- a number that passes, with none below it that does
pub lowest_at : (n m : ℕ) (test : ℕ → Bool) → lowest n test ≡ None → test n ≡ true → n < m → lowest m test ≡ Some n
lowest_at n zero test none is lt = absurd (omega arith)
lowest_at n (suc m) test none is lt = lowest_suc m test ∙ step (n == m) refl (lowest_at n m test none is)
  where
    step : (b : Bool) → (n == m) ≡ b → (n < m → lowest m test ≡ Some n) → or_last (lowest m test) (test m) m ≡ Some n
    step true e rest =
        let same : n ≡ m = grind (arith, nat_tests) in let none' : lowest m test ≡ None = rw same at none in let is' : test m ≡ true = rw same at is in
        rw none' (rw is' (ap (λ k. Some k) (sym same)))
    step false e rest = let here : lowest m test ≡ Some n = rest (grind (arith, nat_tests)) in rw here refl

or_last_some : (o : Option ℕ) (b : Bool) (n i : ℕ) → or_last o b n ≡ Some i → (o ≡ Some i) ⊎ ((b ≡ true) × (n ≡ i))
or_last_some None true n i h = inr (refl, cc)
or_last_some None false n i h = absurd (cc)
or_last_some (Some j) b n i h = inl h

pub lowest_passes : (n : ℕ) (test : ℕ → Bool) (i : ℕ) → lowest n test ≡ Some i → test i ≡ true
lowest_passes zero test i h = absurd (cc)
lowest_passes (suc n) test i h =
    elim (or_last_some (lowest n test) (test n) n i (sym (lowest_suc n test) ∙ h)) [ inl e ↦ lowest_passes n test i e | inr p ↦ rw p.1 at p.0 ]

pub lowest_none : (n : ℕ) (test : ℕ → Bool) → ((i : ℕ) → i < n → test i ≡ false) → lowest n test ≡ None
lowest_none zero test all = refl
lowest_none (suc n) test all =
    let rest : lowest n test ≡ None = lowest_none n test (λ i lt. all i (omega arith)) in let here : test n ≡ false = all n (omega arith) in
    rw rest (rw here refl)

or_last_none : (o : Option ℕ) (b : Bool) (n : ℕ) → or_last o b n ≡ None → (o ≡ None) × (b ≡ false)
or_last_none None true n h = absurd (cc)
or_last_none None false n h = (refl, refl)
or_last_none (Some j) b n h = absurd (cc)

pub none_passes : (n : ℕ) (test : ℕ → Bool) → lowest n test ≡ None → (i : ℕ) → i < n → test i ≡ false
none_passes zero test none i lt = absurd (omega arith)
none_passes (suc n) test none i lt =
    let both : (lowest n test ≡ None) × (test n ≡ false) = or_last_none (lowest n test) (test n) n (sym (lowest_suc n test) ∙ none) in
    step (i == n) refl both.1 (none_passes n test both.0 i)
  where
    step : (b : Bool) → (i == n) ≡ b → test n ≡ false → (i < n → test i ≡ false) → test i ≡ false
    step true e last rest = let same : i ≡ n = grind (arith, nat_tests) in rw same last
    step false e last rest = rest (grind (arith, nat_tests))

-- THE TEXT THAT AGREES

-- none is backed where none agrees
pub unbacked : (u : ℕ) (row : List (Option (List ℕ))) → agreed u row ≡ None → lowest (2 * u + 1) (λ y. is_backed u row (copy_of row y)) ≡ None
unbacked u row h = step (lowest (2 * u + 1) (λ y. is_backed u row (copy_of row y))) refl h
  where
    step : (o : Option ℕ) → lowest (2 * u + 1) (λ y. is_backed u row (copy_of row y)) ≡ o → and_then o (copy_of row) ≡ None → o ≡ None
    step None e h = refl
    step (Some y) e h =
        let backs : is_backed u row (copy_of row y) ≡ true = lowest_passes (2 * u + 1) (λ y. is_backed u row (copy_of row y)) y e in
        let not : is_backed u row (copy_of row y) ≡ false = rw h refl in absurd (cc)

-- the first node whose copy u+1 nodes gave has the text
pub agreed_at : (u : ℕ) (row : List (Option (List ℕ))) (y : ℕ) (text : List ℕ) → lowest y (λ z. is_backed u row (copy_of row z)) ≡ None → y < 2 * u + 1
    → copy_of row y ≡ Some text → u < givers u row text → agreed u row ≡ Some text
agreed_at u row y text none lt is many =
    let many' : nat_lt u (givers u row text) ≡ true = grind (arith, nat_tests, many) in
    let backs : is_backed u row (copy_of row y) ≡ true = rw is many' in
    let found : lowest (2 * u + 1) (λ z. is_backed u row (copy_of row z)) ≡ Some y =
    lowest_at y (2 * u + 1) (λ z. is_backed u row (copy_of row z)) none backs lt in
    rw found is

-- the copies that were there stay
copy_stays : (row : List (Option (List ℕ))) (s : ℕ) (text : List ℕ) (z : ℕ) (copy : List ℕ) → is_some (copy_of row s) ≡ false → copy_of row z ≡ Some copy
    → copy_of (with_copy row s text) z ≡ Some copy
copy_stays row s text z copy free is = get_or-set_other row s z (Some text) None other ∙ is
  where
    other : z ≡ s → ⊥
    other same = let here : copy_of row s ≡ Some copy = rw same at is in let has : is_some (copy_of row s) ≡ true = rw here refl in (cc)

text_stays : (row : List (Option (List ℕ))) (s : ℕ) (text : List ℕ) (t : List ℕ) (z : ℕ) (o : Option (List ℕ)) → copy_of row z ≡ o
    → is_some (copy_of row s) ≡ false → is_text t o ≡ true → is_text t (copy_of (with_copy row s text) z) ≡ true
text_stays row s text t z None e free h = absurd (cc)
text_stays row s text t z (Some copy) e free h = rw (copy_stays row s text z copy free e) h

backed_stays : (u : ℕ) (row : List (Option (List ℕ))) (s : ℕ) (text : List ℕ) (z : ℕ) (o : Option (List ℕ)) → copy_of row z ≡ o
    → is_some (copy_of row s) ≡ false → is_backed u (with_copy row s text) (copy_of (with_copy row s text) z) ≡ false → is_backed u row o ≡ false
backed_stays u row s text z None e free h = refl
backed_stays u row s text z (Some copy) e free h =
    let now : nat_lt u (givers u (with_copy row s text) copy) ≡ false = rw (copy_stays row s text z copy free e) at h in
    let more : givers u row copy ≤ givers u (with_copy row s text) copy
    = count-more (2 * u + 1) (λ y. is_text copy (copy_of row y)) (λ y. is_text copy (copy_of (with_copy row s text) y))
    (λ y t. text_stays row s text copy y (copy_of row y) refl free t) in
    grind (arith, nat_tests, more, now)

-- copies that agree go on agreeing when a node that gave none gives one
pub agreed_stays : (u : ℕ) (row : List (Option (List ℕ))) (s : ℕ) (text : List ℕ) → is_some (copy_of row s) ≡ false
    → agreed u (with_copy row s text) ≡ None → agreed u row ≡ None
agreed_stays u row s text free h =
    let none : lowest (2 * u + 1) (λ y. is_backed u (with_copy row s text) (copy_of (with_copy row s text) y)) ≡ None = unbacked u (with_copy row s text) h in
    let before : lowest (2 * u + 1) (λ y. is_backed u row (copy_of row y)) ≡ None
    = lowest_none (2 * u + 1) (λ y. is_backed u row (copy_of row y))
    (λ y lt. backed_stays u row s text y (copy_of row y) refl free
    (none_passes (2 * u + 1) (λ z. is_backed u (with_copy row s text) (copy_of (with_copy row s text) z)) none y lt)) in
    rw before refl

-- more than u nodes gave the text that agrees
pub agreed_many : (u : ℕ) (row : List (Option (List ℕ))) (text : List ℕ) → agreed u row ≡ Some text → u < givers u row text
agreed_many u row text h = step (lowest (2 * u + 1) (λ y. is_backed u row (copy_of row y))) refl h
  where
    step : (o : Option ℕ) → lowest (2 * u + 1) (λ y. is_backed u row (copy_of row y)) ≡ o → and_then o (copy_of row) ≡ Some text → u < givers u row text
    step None e h = absurd (cc)
    step (Some y) e h =
        let backs : is_backed u row (copy_of row y) ≡ true = lowest_passes (2 * u + 1) (λ y. is_backed u row (copy_of row y)) y e in
        let many : is_backed u row (Some text) ≡ true = rw h at backs in grind (arith, nat_tests, many)

-- where none passes, none is counted
count_none : (n : ℕ) (test : ℕ → Bool) → ((i : ℕ) → i < n → test i ≡ false) → count_below n test ≡ 0
count_none zero test all = refl
count_none (suc n) test all =
    let rest : count_below n test ≡ 0 = count_none n test (λ i lt. all i (omega arith)) in
    let here : test n ≡ false = all n (omega arith) in
    rw here (rw rest refl)

same_text : (o : Option (List ℕ)) (text : List ℕ) → is_text text o ≡ true → o ≡ Some text
same_text None text h = absurd (cc)
same_text (Some copy) text h = ap (λ t. Some t) ((bytes_eq-Decides copy text).0 h)

-- where no text agrees, no text was given by more than u nodes
few_gave : (u : ℕ) (row : List (Option (List ℕ))) (text : List ℕ) → agreed u row ≡ None → givers u row text ≤ u
few_gave u row text none = step (nat_lt u (givers u row text)) refl
  where
    other : (y : ℕ) → y < 2 * u + 1 → nat_lt u (givers u row text) ≡ true → (b : Bool) → is_text text (copy_of row y) ≡ b → b ≡ false
    other y lt e false g = refl
    other y lt e true g =
        let given : copy_of row y ≡ Some text = same_text (copy_of row y) text g in
        let backs : is_backed u row (copy_of row y) ≡ true = rw given e in
        let not : is_backed u row (copy_of row y) ≡ false
        = none_passes (2 * u + 1) (λ z. is_backed u row (copy_of row z)) (unbacked u row none) y lt in
        absurd (cc)

    step : (b : Bool) → nat_lt u (givers u row text) ≡ b → givers u row text ≤ u
    step false e = grind (arith, nat_tests, e)
    step true e =
        let nobody : givers u row text ≡ 0
        = count_none (2 * u + 1) (λ y. is_text text (copy_of row y)) (λ y lt. other y lt e (is_text text (copy_of row y)) refl) in
        grind (arith, nobody)

-- THE LEAST READY CALL

no_copy : (y : ℕ) → copy_of no_copies y ≡ None
no_copy zero = refl
no_copy (suc zero) = refl
no_copy (suc (suc zero)) = refl
no_copy (suc (suc (suc zero))) = refl
no_copy (suc (suc (suc (suc zero)))) = refl
no_copy (suc (suc (suc (suc (suc y))))) = refl

-- a call without copies has no text that agrees
agreed_there : (u : ℕ) (o : Option (List (Option (List ℕ)))) → agreed u (copies_or_none o) ≡ and_then o (agreed u)
agreed_there u None =
    let none : lowest (2 * u + 1) (λ y. is_backed u no_copies (copy_of no_copies y)) ≡ None
    = lowest_none (2 * u + 1) (λ y. is_backed u no_copies (copy_of no_copies y)) (λ y lt. rw (no_copy y) refl) in
    rw none refl
agreed_there u (Some row) = refl

has_copies : (u : ℕ) (o : Option (List (Option (List ℕ)))) (text : List ℕ) → and_then o (agreed u) ≡ Some text → is_some o ≡ true
has_copies u None text h = absurd (cc)
has_copies u (Some row) text h = refl

-- its copies agree on its text, and those of no lower number agree
pub record AgreesFirst (s : ShimState) (call : ℕ × List ℕ) : Type 0 where
  pub agrees : and_then (find s.copies call.0) (agreed s.faults) ≡ Some call.1
  pub least : (k : ℕ) → k < call.0 → and_then (find s.copies k) (agreed s.faults) ≡ None

pub ready_least : (s : ShimState) (call : ℕ × List ℕ) → rises 0 s.copies ≡ true → ready s ≡ Some call → AgreesFirst s call
ready_least s call h is = record {
  agrees = sym (find_picked (agreed s.faults) 0 s.copies call.0 h) ∙ first_found (ready_calls s.faults s.copies) call is;
  least = λ k lt. sym (find_picked (agreed s.faults) 0 s.copies k h)
      ∙ first_least 0 (ready_calls s.faults s.copies) call k (rises_picked (agreed s.faults) 0 s.copies h) is lt;
}

-- so it is the least of which more than u nodes gave one text
pub ready_is_least : (s : ShimState) (call : ℕ × List ℕ) → rises 0 s.copies ≡ true → AreWaiting s.kept s.floor s.copies → ready s ≡ Some call
    → IsLeastReady s call
ready_is_least s call h waiting is =
    let first_one : AgreesFirst s call = ready_least s call h is in
    record {
      waits = waiting call.0 (has_copies s.faults (find s.copies call.0) call.1 first_one.agrees);
      many = agreed_many s.faults (copies_at s call.0) call.1 (agreed_there s.faults (find s.copies call.0) ∙ first_one.agrees);
      least = λ k text lt. few_gave s.faults (copies_at s k) text (agreed_there s.faults (find s.copies k) ∙ first_one.least k lt);
    }

-- where none is ready, no call's copies agree
pub ready_none : (s : ShimState) → rises 0 s.copies ≡ true → ready s ≡ None → IsNoneReady s
ready_none s h is k text = few_gave s.faults (copies_at s k) text (agreed_there s.faults (find s.copies k)
    ∙ (sym (find_picked (agreed s.faults) 0 s.copies k h) ∙ nothing (ready_calls s.faults s.copies) is))
  where
    nothing : (calls : List (ℕ × List ℕ)) → first calls ≡ None → find calls k ≡ None
    nothing [] e = refl
    nothing (c ∷ cs) e = absurd (cc)

-- THE FLOOR THAT IS DUE

and_true : (a b : Bool) → (a && b) ≡ true → b ≡ true
and_true true b h = h
and_true false b h = absurd (cc)

-- u+1 nodes told it or a higher one
pub due_many : (u : ℕ) (floors : List ℕ) (y : ℕ) → 0 < due_among u floors y → many_at_least u floors (due_among u floors y) ≡ true
due_many u floors zero lt = absurd (omega arith)
due_many u floors (suc y) lt = which (is_more u floors (due_among u floors y) (floor_at floors y)) refl (due_many u floors y)
  where
    which : (b : Bool) → is_more u floors (due_among u floors y) (floor_at floors y) ≡ b
        → (0 < due_among u floors y → many_at_least u floors (due_among u floors y) ≡ true)
        → many_at_least u floors (if b then floor_at floors y else due_among u floors y) ≡ true
    which true e before = and_true (nat_lt (due_among u floors y) (floor_at floors y)) (many_at_least u floors (floor_at floors y)) e
    which false e before = before (rw e at lt)

-- and so did u+1 nodes no floor that is higher
pub due_greatest : (u : ℕ) (floors : List ℕ) (n y : ℕ) → y < n → many_at_least u floors (floor_at floors y) ≡ true → floor_at floors y ≤ due_among u floors n
due_greatest u floors zero y lt many = absurd (omega arith)
due_greatest u floors (suc n) y lt many =
    which (is_more u floors (due_among u floors n) (floor_at floors n)) refl (λ below. due_greatest u floors n y below many)
  where
    which : (b : Bool) → is_more u floors (due_among u floors n) (floor_at floors n) ≡ b → (y < n → floor_at floors y ≤ due_among u floors n)
        → floor_at floors y ≤ (if b then floor_at floors n else due_among u floors n)
    which b e before = grind (arith, nat_tests, e, before, many)

-- so the floor that is due is the greatest that u+1 nodes told; s is the state as it is kept, h as it is seen
pub due_is : (s h : ShimState) (g : ℕ) → s ≡ h → g ≡ due s.faults s.floors → s.floor < g → IsGreatestTold h g
due_is s h g seen is above = rw (← seen) (rw is record {
  many = due_many s.faults s.floors (2 * s.faults + 1) (omega (arith, is, above));
  greatest = due_greatest s.faults s.floors (2 * s.faults + 1);
})
