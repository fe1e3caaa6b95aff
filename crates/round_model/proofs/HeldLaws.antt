-- Held answers: what is usable, that it stays so, what the floor is, and what is found after one was added.
use Rattle.std.proofs.Common.{◌≡◌, ℕ, zero, suc, ◌+◌, ◌*◌, ◌<◌, ◌≤◌, Bool, true, false, ◌||◌, ◌==◌, List, [], ◌∷◌, set, Option, Some, None}
use Rattle.std.proofs.Common.{if◌then◌else◌, refl, sym, ap, ◌∙◌, ◌↔◌, arith}
use Rattle.std.proofs.lemmas.Bool.Decides.{nat_tests}
use Rattle.log_model.specs.Log.{count_below, has, is}
use Rattle.log_model.proofs.Basics.{count-more}
use Rattle.round_model.specs.declared.answer.Answer.{Answer}
use Rattle.round_model.specs.Numbered.{rises, find, put, passes, least_open}
use Rattle.aeg_base.specs.declared.names.Tier.{Tier}
use Rattle.aeg_base.specs.declared.names.Tier.TheVariants.{Mid, Inv, Pay}
use Rattle.server_model.specs.Server.{same_tier}
use Rattle.round_model.specs.Lists.{is_some, and_then}
use Rattle.round_model.specs.Held.{HeldState, answers_of, untold, told_by, is_usable, code_if_usable, usable, holds, takes_as, takes, heard}
use Rattle.round_model.specs.Held.{hears, floor, floor_of}
pub use Rattle.round_model.specs.Held.{IsHeldByMany}
use Rattle.round_model.proofs.NumberedLaws.{rises_put, find_put, least_open_is, least_open_from, least_open_below, least_open_fails}

-- THE FLOOR

-- all below the floor are usable
pub floor_below : (u me : ℕ) (es : List (ℕ × Answer)) (k : ℕ) → 1 ≤ k → k < floor_of u me es → passes (is_usable u me) (find es k) ≡ true
floor_below u me es k low high =
    let most : floor_of u me es ≤ least_open (is_usable u me) 1 es = grind (arith, nat_tests) in
    least_open_below (is_usable u me) 1 es k low (omega (arith, most))

-- the floor is at least 1
pub floor_from : (u me : ℕ) (es : List (ℕ × Answer)) → 1 ≤ floor_of u me es
floor_from u me es = let low = least_open_from (is_usable u me) 1 es in grind (arith, nat_tests)

-- a number that isn't usable, below which all are, is the floor; so is the greatest number, where all below it are usable
pub floor_is : (u me : ℕ) (es : List (ℕ × Answer)) (f : ℕ) → rises 0 es ≡ true → 1 ≤ f → f ≤ 4294967295
    → ((k : ℕ) → 1 ≤ k → k < f → passes (is_usable u me) (find es k) ≡ true)
    → (f < 4294967295 → passes (is_usable u me) (find es f) ≡ false) → floor_of u me es ≡ f
floor_is u me es f h low high all fails =
    let from : 1 ≤ least_open (is_usable u me) 1 es = least_open_from (is_usable u me) 1 es in
    let at : passes (is_usable u me) (find es (least_open (is_usable u me) 1 es)) ≡ false = least_open_fails (is_usable u me) 0 1 es h in
    let is : f < 4294967295 → least_open (is_usable u me) 1 es ≡ f = λ lt. least_open_is (is_usable u me) 0 1 f es h low all (fails lt) in
    let above : f ≤ least_open (is_usable u me) 1 es = grind (arith, all (least_open (is_usable u me) 1 es) from) in
    grind (arith, nat_tests, is, above)

-- WHAT STAYS USABLE

-- a flag that is set stays so when one more is
has_set : (flags : List Bool) (y z : ℕ) → has flags z ≡ true → has (set flags y true) z ≡ true
has_set [] y z h = h
has_set (b ∷ bs) zero zero h = refl
has_set (b ∷ bs) zero (suc z) h = h
has_set (b ∷ bs) (suc y) zero h = h
has_set (b ∷ bs) (suc y) (suc z) h = has_set bs y z h

or_more : (p q r : Bool) → (q ≡ true → r ≡ true) → (p || q) ≡ true → (p || r) ≡ true
or_more true q r more h = refl
or_more false q r more h = more h

-- an answer that was usable stays so when one more told that it holds it
pub still_usable : (u me : ℕ) (a : Answer) (y : ℕ) → is_usable u me a ≡ true → is_usable u me (told_by a y) ≡ true
still_usable u me a y h =
    let more : count_below (2 * u + 1) (λ z. is me z || has a.noted z) ≤ count_below (2 * u + 1) (λ z. is me z || has (told_by a y).noted z)
    = count-more (2 * u + 1) (λ z. is me z || has a.noted z) (λ z. is me z || has (told_by a y).noted z)
    (λ z. or_more (is me z) (has a.noted z) (has (told_by a y).noted z) (has_set a.noted y z)) in
    grind (arith, nat_tests, more)

-- what is usable stays so, where a number gets an answer that is usable if the one before it was
pub usable_put : (u me : ℕ) (es : List (ℕ × Answer)) (n : ℕ) (a : Answer) (k : ℕ) → (passes (is_usable u me) (find es n) ≡ true → is_usable u me a ≡ true)
    → passes (is_usable u me) (find es k) ≡ true → passes (is_usable u me) (find (put es n a) k) ≡ true
usable_put u me es n a k stays h = rw (find_put es n a k) (which (n == k) refl)
  where
    which : (b : Bool) → (n == k) ≡ b → passes (is_usable u me) (if b then Some a else find es k) ≡ true
    which true e = let same : n ≡ k = grind (arith, nat_tests) in stays (rw same h)
    which false e = h

-- so all below the floor still are
pub floor_below_put : (u me : ℕ) (es new : List (ℕ × Answer)) (n f : ℕ) (a : Answer) → f ≡ floor_of u me es → new ≡ put es n a
    → (passes (is_usable u me) (find es n) ≡ true → is_usable u me a ≡ true)
    → (k : ℕ) → 1 ≤ k → k < f → passes (is_usable u me) (find new k) ≡ true
floor_below_put u me es new n f a is put_is stays k low high = rw put_is (usable_put u me es n a k stays (floor_below u me es k low (omega (arith, is))))

-- the floor is a number of 32 bits
pub floor_most : (u me : ℕ) (es : List (ℕ × Answer)) → floor_of u me es ≤ 4294967295
floor_most u me es = grind (arith, nat_tests)

-- one that is found and told once more
pub told_stays : (u me : ℕ) (o : Option Answer) (a b : Answer) (y : ℕ) → Some a ≡ o → b ≡ told_by a y → passes (is_usable u me) o ≡ true
    → is_usable u me b ≡ true
told_stays u me o a b y found is h = let h' : is_usable u me a ≡ true = rw (← found) at h in rw is (still_usable u me a y h')

-- THE ANSWERS OF ALL TIERS

-- each tier's answers are in order
pub record InOrder (h : HeldState) : Type 0 where
  pub mid : rises 0 h.answers.mid ≡ true
  pub inv : rises 0 h.answers.inv ≡ true
  pub pay : rises 0 h.answers.pay ≡ true

pub in_order : (h : HeldState) (t : Tier) → InOrder h → rises 0 (answers_of h t) ≡ true
in_order h Mid o = o.mid
in_order h Inv o = o.inv
in_order h Pay o = o.pay

pub in_order_holds : (h : HeldState) (t : Tier) (n : ℕ) (a : Answer) → InOrder h → InOrder (holds h t n a)
in_order_holds h Mid n a o = record { mid = rises_put 0 h.answers.mid n a (omega arith) o.mid; inv = o.inv; pay = o.pay }
in_order_holds h Inv n a o = record { mid = o.mid; inv = rises_put 0 h.answers.inv n a (omega arith) o.inv; pay = o.pay }
in_order_holds h Pay n a o = record { mid = o.mid; inv = o.inv; pay = rises_put 0 h.answers.pay n a (omega arith) o.pay }

-- adding an answer, and a Have, keep the order
pub in_order_takes : (h : HeldState) (t : Tier) (n code : ℕ) → InOrder h → InOrder (takes h t n code)
in_order_takes h t n code o = which (find (answers_of h t) n)
  where
    which : (b : Option Answer) → InOrder (takes_as h t n code b)
    which None = in_order_holds h t n (untold code) o
    which (Some a) = o

pub in_order_hears : (h : HeldState) (y : ℕ) (t : Tier) (n code : ℕ) → InOrder h → InOrder (hears h y t n code)
in_order_hears h y t n code o = in_order_holds h t n (heard (find (answers_of h t) n) code y) o

-- what is found once an answer is added: at its own tier, and at another
pub find_holds : (h : HeldState) (t : Tier) (n : ℕ) (a : Answer) (k : ℕ)
    → find (answers_of (holds h t n a) t) k ≡ (if n == k then Some a else find (answers_of h t) k)
find_holds h Mid n a k = find_put h.answers.mid n a k
find_holds h Inv n a k = find_put h.answers.inv n a k
find_holds h Pay n a k = find_put h.answers.pay n a k

pub answers_holds : (h : HeldState) (t s : Tier) (n : ℕ) (a : Answer) → same_tier t s ≡ false → answers_of (holds h t n a) s ≡ answers_of h s
answers_holds h Mid Mid n a d = absurd (cc)
answers_holds h Mid Inv n a d = refl
answers_holds h Mid Pay n a d = refl
answers_holds h Inv Mid n a d = refl
answers_holds h Inv Inv n a d = absurd (cc)
answers_holds h Inv Pay n a d = refl
answers_holds h Pay Mid n a d = refl
answers_holds h Pay Inv n a d = refl
answers_holds h Pay Pay n a d = absurd (cc)

-- WHAT IS USABLE

-- a usable answer is held, and more than u replicas are known to hold it
pub usable_held : (h : HeldState) (t : Tier) (n code : ℕ) → usable h t n ≡ Some code → IsHeldByMany h t n code
usable_held h t n code is = which (find (answers_of h t) n) refl is
  where
    which : (o : Option Answer) → find (answers_of h t) n ≡ o → and_then o (code_if_usable h.faults h.me) ≡ Some code → IsHeldByMany h t n code
    which None e is = absurd (cc)
    which (Some a) e is = by_test (is_usable h.faults h.me a) refl is
      where
        by_test : (b : Bool) → is_usable h.faults h.me a ≡ b → (if b then Some a.code else None) ≡ Some code → IsHeldByMany h t n code
        by_test true u is = record { answer = a; found = e; has_code = (cc); many = grind (arith, nat_tests, u) }
        by_test false u is = absurd (cc)

-- and an answer that is held and that more than u replicas are known to hold is usable
pub held_usable : (h : HeldState) (t : Tier) (n code : ℕ) → IsHeldByMany h t n code → usable h t n ≡ Some code
held_usable h t n code k =
    let test : is_usable h.faults h.me k.answer ≡ true = grind (arith, nat_tests, k.many) in
    rw k.found (rw test (ap (λ c. Some c) k.has_code))

-- so the code that is usable of what is found (s is the state as it is kept, h as it is seen) is usable exactly where it
-- is held and more than u replicas are known to hold it
pub usable_exactly : (s h : HeldState) (t : Tier) (n : ℕ) (o : Option Answer) (r : Option ℕ) → s ≡ h → o ≡ find (answers_of h t) n
    → r ≡ and_then o (code_if_usable s.faults s.me) → (code : ℕ) → (r ≡ Some code) ↔ IsHeldByMany h t n code
usable_exactly s h t n o r seen found is code = (λ e. usable_held h t n code (sym is' ∙ e), λ k. is' ∙ held_usable h t n code k)
  where
    is' : r ≡ usable h t n
    is' = is ∙ rw seen (rw found refl)

-- usable is passing the test
pub usable_passes : (h : HeldState) (t : Tier) (n : ℕ) → is_some (usable h t n) ≡ passes (is_usable h.faults h.me) (find (answers_of h t) n)
usable_passes h t n = which (find (answers_of h t) n)
  where
    which : (o : Option Answer) → is_some (and_then o (code_if_usable h.faults h.me)) ≡ passes (is_usable h.faults h.me) o
    which None = refl
    which (Some a) = by_test (is_usable h.faults h.me a)
      where
        by_test : (b : Bool) → is_some (if b then Some a.code else None) ≡ b
        by_test true = refl
        by_test false = refl

-- an answer that fails the test has no code that is usable
failing : (u me : ℕ) (o : Option Answer) → passes (is_usable u me) o ≡ false → and_then o (code_if_usable u me) ≡ None
failing u me None h = refl
failing u me (Some a) h = rw h refl

-- the floor is the least number from 1 that isn't usable: all below it are
pub floor_usable : (h : HeldState) (t : Tier) (k : ℕ) → 1 ≤ k → k < floor h t → is_some (usable h t k) ≡ true
floor_usable h t k low high = usable_passes h t k ∙ floor_below h.faults h.me (answers_of h t) k low high

-- and it isn't, but where it is the greatest number
pub floor_unusable : (h : HeldState) (t : Tier) → rises 0 (answers_of h t) ≡ true → floor h t < 4294967295
    → usable h t (floor h t) ≡ None
floor_unusable h t sorted lt =
    let least : floor h t ≡ least_open (is_usable h.faults h.me) 1 (answers_of h t) = grind (arith, nat_tests, lt) in
    rw least (failing h.faults h.me _ (least_open_fails (is_usable h.faults h.me) 0 1 (answers_of h t) sorted))
