-- The calls that wait after the copies of calls change: es are the copies and R the ready calls before, new and R' those after.
use Rattle.std.proofs.Common.{◌≡◌, ℕ, Bool, true, false, ◌||◌, ◌==◌, List, [], Option, Some, None, Result, Ok, Err, OnOk, OnErr, if◌then◌else◌}
use Rattle.std.proofs.Common.{IfSome, IfNone, option_map, refl, sym, ap, ◌∙◌, arith}
use Rattle.std.specs.Prelude.{nat_lt}
use Rattle.std.proofs.lemmas.Bool.Decides.{nat_tests}
use Rattle.round_model.specs.Lists.{is_some, and_then}
use Rattle.round_model.specs.Numbered.{rises, find, put, without, from, first}
use Rattle.round_model.specs.Shims.{ShimState, copy_of, copies_or_none, copies_at, with_copy, is_done, ignores, agreed, ready_calls, AreWaiting, IsLeastReady}
use Rattle.round_model.specs.Shims.{IsNoneReady}
use Rattle.round_model.proofs.NumberedLaws.{find_put, find_without, find_from, find_picked, rises_put, rises_without, rises_from}
use Rattle.round_model.proofs.NumberedLaws.{picked_put_some, picked_put_none, picked_without, picked_from, without_none, without_put}
use Rattle.round_model.proofs.ShimLaws.{agreed_stays, ready_is_least, ready_none}
use Rattle.server_shim.specs.Calls.{AreReady}

-- READY CALLS

-- a call without copies isn't ready
unready : (u : ℕ) (es : List (ℕ × List (Option (List ℕ)))) (R : List (ℕ × List ℕ)) (n : ℕ) → AreReady u es R
    → and_then (find es n) (agreed u) ≡ None → find R n ≡ None
unready u es R n h none = rw h.picked (find_picked (agreed u) 0 es n h.sorted ∙ none)

-- the copies agree: the call is ready
pub joins : (u : ℕ) (es new : List (ℕ × List (Option (List ℕ)))) (R R' : List (ℕ × List ℕ)) (n : ℕ) (row : List (Option (List ℕ))) (text : List ℕ)
    → AreReady u es R → agreed u row ≡ Some text → R' ≡ put R n text → new ≡ put es n row → AreReady u new R'
joins u es new R R' n row text h agrees put_is new_is = record {
  sorted = rw new_is (rises_put 0 es n row (omega arith) h.sorted);
  picked = rw new_is (put_is ∙ (ap (λ S. put S n text) h.picked ∙ sym (picked_put_some (agreed u) 0 es n row text h.sorted agrees)));
}

-- there was no memory for the copies: the call is taken back
pub goes_back : (u : ℕ) (es new : List (ℕ × List (Option (List ℕ)))) (R R' R'' : List (ℕ × List ℕ)) (n : ℕ) (text : List ℕ)
    → AreReady u es R → find es n ≡ None → R' ≡ put R n text → R'' ≡ without R' n → new ≡ es → AreReady u new R''
goes_back u es new R R' R'' n text h none put_is out_is new_is =
    let absent : find R n ≡ None = unready u es R n h (rw none refl) in
    record {
      sorted = rw new_is h.sorted;
      picked = rw new_is (out_is ∙ (ap (λ S. without S n) put_is ∙ (without_put R n text absent ∙ h.picked)));
    }

-- the copies don't agree, and neither did those before them: nothing becomes ready
pub waits : {T E : Type 0} (r : Result T E) (u : ℕ) (es new : List (ℕ × List (Option (List ℕ)))) (R : List (ℕ × List ℕ)) (n : ℕ)
    (row : List (Option (List ℕ))) → AreReady u es R → agreed u row ≡ None → and_then (find es n) (agreed u) ≡ None
    → OnOk r (new ≡ put es n row) → OnErr r (new ≡ es) → AreReady u new R
waits (Ok t) u es new R n row h none before ok err =
    let absent : find (ready_calls u es) n ≡ None = find_picked (agreed u) 0 es n h.sorted ∙ before in
    let same : ready_calls u es ≡ ready_calls u (put es n row)
    = sym (without_none (ready_calls u es) n absent) ∙ sym (picked_put_none (agreed u) 0 es n row h.sorted none) in
    record { sorted = rw ok (rises_put 0 es n row (omega arith) h.sorted); picked = rw ok (h.picked ∙ same) }
waits (Err e) u es new R n row h none before ok err = rw err h

pub leaves : (u : ℕ) (es new : List (ℕ × List (Option (List ℕ)))) (R R' : List (ℕ × List ℕ)) (n : ℕ) → AreReady u es R
    → new ≡ without es n → R' ≡ without R n → AreReady u new R'
leaves u es new R R' n h new_is out_is = record {
  sorted = rw new_is (rises_without 0 es n h.sorted);
  picked = rw new_is (out_is ∙ (ap (λ S. without S n) h.picked ∙ sym (picked_without (agreed u) 0 es n h.sorted)));
}

pub drops : (u : ℕ) (es new : List (ℕ × List (Option (List ℕ)))) (R R' : List (ℕ × List ℕ)) (n : ℕ) → AreReady u es R
    → new ≡ from es n → R' ≡ from R n → AreReady u new R'
drops u es new R R' n h new_is out_is = record {
  sorted = rw new_is (rises_from 0 es n h.sorted);
  picked = rw new_is (out_is ∙ (ap (λ S. from S n) h.picked ∙ sym (picked_from (agreed u) 0 es n h.sorted)));
}

-- A COPY THAT COUNTS

or_false : (a b : Bool) → (a || b) ≡ false → b ≡ false
or_false true b h = absurd (cc)
or_false false b h = h

or_false_first : (a b : Bool) → (a || b) ≡ false → a ≡ false
or_false_first true b h = absurd (cc)
or_false_first false b h = refl

-- where the call's copies don't agree with one more, they didn't without it
counts : (s : ShimState) (y n : ℕ) (text : List ℕ) (row : List (Option (List ℕ))) → ignores s y n ≡ false → row ≡ with_copy (copies_at s n) y text
    → agreed s.faults row ≡ None → and_then (find s.copies n) (agreed s.faults) ≡ None
counts s y n text row h is none = step (find s.copies n) (or_false (is_done s n) (is_some (copy_of (copies_at s n) y)) h) (rw is at none)
  where
    step : (o : Option (List (Option (List ℕ)))) → is_some (copy_of (copies_or_none o) y) ≡ false
        → agreed s.faults (with_copy (copies_or_none o) y text) ≡ None → and_then o (agreed s.faults) ≡ None
    step None free none = refl
    step (Some before) free none = agreed_stays s.faults before y text free none

pub counts_in : (s now : ShimState) (y n : ℕ) (text : List ℕ) (row : List (Option (List ℕ))) → s ≡ now → ignores now y n ≡ false
    → row ≡ with_copy (copies_at now n) y text → agreed s.faults row ≡ None → and_then (find s.copies n) (agreed s.faults) ≡ None
counts_in s now y n text row e h is none = counts s y n text row (rw e h) (rw e is) none

-- CALLS THAT WAIT AREN'T DONE

pub none_waits : AreWaiting [] 1 []
none_waits k h = absurd (cc)

-- a call that isn't done gets copies
more_wait : (kept : List (ℕ × ℕ)) (floor : ℕ) (es new : List (ℕ × List (Option (List ℕ)))) (n : ℕ) (row : List (Option (List ℕ)))
    → AreWaiting kept floor es → (nat_lt n floor || is_some (find kept n)) ≡ false → new ≡ put es n row → AreWaiting kept floor new
more_wait kept floor es new n row waiting undone is k h = which (n == k) refl (rw (find_put es n row k) at (rw is at h))
  where
    which : (b : Bool) → (n == k) ≡ b → is_some (if n == k then Some row else find es k) ≡ true → (nat_lt k floor || is_some (find kept k)) ≡ false
    which true e has = let same : n ≡ k = grind (arith, nat_tests) in rw (← same) undone
    which false e has = waiting k (rw e at has)

pub more_wait_in : (s now : ShimState) (new : List (ℕ × List (Option (List ℕ)))) (y n : ℕ) (row : List (Option (List ℕ))) → s ≡ now
    → ignores now y n ≡ false → AreWaiting s.kept s.floor s.copies → new ≡ put s.copies n row → AreWaiting s.kept s.floor new
more_wait_in s now new y n row e h waiting is =
    more_wait s.kept s.floor s.copies new n row waiting (or_false_first (is_done s n) (is_some (copy_of (copies_at s n) y)) (rw e h)) is

-- a call is served
pub others_wait : (kept kept' : List (ℕ × ℕ)) (floor : ℕ) (es new : List (ℕ × List (Option (List ℕ)))) (n code : ℕ) → rises 0 es ≡ true
    → AreWaiting kept floor es → kept' ≡ put kept n code → new ≡ without es n → AreWaiting kept' floor new
others_wait kept kept' floor es new n code sorted waiting put_is is k h = which (n == k) refl (rw (find_without 0 es n k sorted) at (rw is at h))
  where
    which : (b : Bool) → (n == k) ≡ b → is_some (if n == k then None else find es k) ≡ true → (nat_lt k floor || is_some (find kept' k)) ≡ false
    which true e has = absurd (let nothing : false ≡ true = rw e at has in cc)
    which false e has = rw put_is (rw (find_put kept n code k) (rw e (waiting k (rw e at has))))

-- the floor rises
pub higher_wait : (kept kept' : List (ℕ × ℕ)) (floor g : ℕ) (es new : List (ℕ × List (Option (List ℕ)))) → rises 0 es ≡ true → rises 0 kept ≡ true
    → AreWaiting kept floor es → kept' ≡ from kept g → new ≡ from es g → AreWaiting kept' g new
higher_wait kept kept' floor g es new sorted in_order waiting from_is is k h = which (nat_lt k g) refl (rw (find_from 0 es g k sorted) at (rw is at h))
  where
    which : (b : Bool) → nat_lt k g ≡ b → is_some (if nat_lt k g then None else find es k) ≡ true → (nat_lt k g || is_some (find kept' k)) ≡ false
    which true e has = absurd (let nothing : false ≡ true = rw e at has in cc)
    which false e has =
        let unkept : is_some (find kept k) ≡ false = or_false (nat_lt k floor) (is_some (find kept k)) (waiting k (rw e at has)) in
        rw from_is (rw (find_from 0 kept g k in_order) (rw e unkept))

-- THE LEAST READY CALL: s is the state as it is kept, h as it is seen, and o what is first among the ready calls

pub least_in : {B : Type 0} (seen_as : B → ℕ × List ℕ) (s h : ShimState) (R : List (ℕ × List ℕ)) (o : Option B) → s ≡ h → AreReady s.faults s.copies R
    → AreWaiting s.kept s.floor s.copies → option_map seen_as o ≡ first R → IfSome o (λ b. IsLeastReady h (seen_as b))
least_in seen_as s h R None e ready waiting is = tt
least_in seen_as s h R (Some b) e ready waiting is =
    rw (← e) (ready_is_least s (seen_as b) ready.sorted waiting (sym (is ∙ ap (λ S. first S) ready.picked)))

pub nothing_in : {B : Type 0} (seen_as : B → ℕ × List ℕ) (s h : ShimState) (R : List (ℕ × List ℕ)) (o : Option B) → s ≡ h → AreReady s.faults s.copies R
    → option_map seen_as o ≡ first R → IfNone o (IsNoneReady h)
nothing_in seen_as s h R None e ready is = rw (← e) (ready_none s ready.sorted (sym (is ∙ ap (λ S. first S) ready.picked)))
nothing_in seen_as s h R (Some b) e ready is = tt
