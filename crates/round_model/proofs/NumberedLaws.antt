-- Tables by number: what is found after a change, that a change keeps the order, and where in the list it is made.
use Rattle.std.proofs.Common.{◌≡◌, ℕ, zero, suc, ◌<◌, ◌≤◌, Bool, true, false, ◌==◌, List, [], ◌∷◌, length, get_or}
use Rattle.std.proofs.Common.{Option, Some, None, if◌then◌else◌, refl, arith}
use Rattle.std.specs.Prelude.{nat_lt}
use Rattle.std.proofs.lemmas.Bool.Decides.{nat_tests}
use Rattle.round_model.specs.Lists.{and_then}
use Rattle.round_model.specs.Numbered.{rises, find, put, without, from, first, picked, picked_as, passes, least_open}

-- THE ORDER

-- the first of a table, and what is behind it
pub record Risen {A : Type 0} (n : ℕ) (e : ℕ × A) (es : List (ℕ × A)) : Type 0 where
  pub least : n ≤ e.0
  pub rest : rises (suc e.0) es ≡ true

pub risen : {A : Type 0} (n : ℕ) (e : ℕ × A) (es : List (ℕ × A)) → rises n (e ∷ es) ≡ true → Risen n e es
risen n e es h = record { least = grind (arith, nat_tests); rest = grind (arith, nat_tests) }

pub rise : {A : Type 0} (n : ℕ) (e : ℕ × A) (es : List (ℕ × A)) → n ≤ e.0 → rises (suc e.0) es ≡ true → rises n (e ∷ es) ≡ true
rise n e es le h = grind (arith, nat_tests)

-- a table from n on is one from less on
pub rises_lower : {A : Type 0} (m n : ℕ) (es : List (ℕ × A)) → m ≤ n → rises n es ≡ true → rises m es ≡ true
rises_lower m n [] le h = refl
rises_lower m n (e ∷ es) le h = let r = risen n e es h in rise m e es (omega arith) r.rest

-- WHAT IS FOUND

pub find_below : {A : Type 0} (n : ℕ) (es : List (ℕ × A)) (k : ℕ) → rises n es ≡ true → k < n → find es k ≡ None
find_below n [] k h lt = refl
find_below n (e ∷ es) k h lt = let r = risen n e es h in grind (arith, nat_tests, find_below (suc e.0) es k r.rest (omega arith))

pub find_put : {A : Type 0} (es : List (ℕ × A)) (n : ℕ) (a : A) (k : ℕ) → find (put es n a) k ≡ (if n == k then Some a else find es k)
find_put [] n a k = refl
find_put (e ∷ es) n a k = grind (arith, nat_tests, find_put es n a k)

pub find_without : {A : Type 0} (m : ℕ) (es : List (ℕ × A)) (n k : ℕ) → rises m es ≡ true → find (without es n) k ≡ (if n == k then None else find es k)
find_without m [] n k h = grind (arith, nat_tests)
find_without m (e ∷ es) n k h = let r = risen m e es h in grind (arith, nat_tests, find_without (suc e.0) es n k r.rest, find_below (suc e.0) es k r.rest)

pub find_from : {A : Type 0} (m : ℕ) (es : List (ℕ × A)) (n k : ℕ) → rises m es ≡ true → find (from es n) k ≡ (if nat_lt k n then None else find es k)
find_from m [] n k h = grind (arith, nat_tests)
find_from m (e ∷ es) n k h = let r = risen m e es h in grind (arith, nat_tests, find_from (suc e.0) es n k r.rest, find_below (suc e.0) es k r.rest)

pub find_picked : {A B : Type 0} (f : A → Option B) (m : ℕ) (es : List (ℕ × A)) (k : ℕ) → rises m es ≡ true → find (picked f es) k ≡ and_then (find es k) f
find_picked f m [] k h = refl
find_picked f m (e ∷ es) k h = let r = risen m e es h in
    let below : k < suc e.0 → find es k ≡ None = find_below (suc e.0) es k r.rest in
    let rest : find (picked f es) k ≡ and_then (find es k) f = find_picked f (suc e.0) es k r.rest in
    picked_step e k f (f e.1) es refl below rest
  where
    picked_step : {A B : Type 0} (e : ℕ × A) (k : ℕ) (f : A → Option B) (o : Option B) (es : List (ℕ × A)) → f e.1 ≡ o → (k < suc e.0 → find es k ≡ None)
        → find (picked f es) k ≡ and_then (find es k) f
        → find (picked_as e.0 o (picked f es)) k ≡ and_then (if e.0 == k then Some e.1 else find es k) f
    picked_step e k f None es is below rest = grind (arith, nat_tests, below)
    picked_step e k f (Some b) es is below rest = grind (arith, nat_tests, below)

-- THE ORDER IS KEPT

pub rises_put : {A : Type 0} (m : ℕ) (es : List (ℕ × A)) (n : ℕ) (a : A) → m ≤ n → rises m es ≡ true → rises m (put es n a) ≡ true
rises_put m [] n a le h = grind (arith, nat_tests)
rises_put m (e ∷ es) n a le h = let r = risen m e es h in grind (arith, nat_tests, rises_put (suc e.0) es n a, rises_lower (suc n) (suc e.0) es)

pub rises_without : {A : Type 0} (m : ℕ) (es : List (ℕ × A)) (n : ℕ) → rises m es ≡ true → rises m (without es n) ≡ true
rises_without m [] n h = refl
rises_without m (e ∷ es) n h = let r = risen m e es h in grind (arith, nat_tests, rises_without (suc e.0) es n r.rest, rises_lower m (suc e.0) es)

pub rises_from : {A : Type 0} (m : ℕ) (es : List (ℕ × A)) (n : ℕ) → rises m es ≡ true → rises m (from es n) ≡ true
rises_from m [] n h = refl
rises_from m (e ∷ es) n h = let r = risen m e es h in grind (arith, nat_tests, rises_from (suc e.0) es n r.rest, rises_lower m (suc e.0) (from es n))

pub rises_picked : {A B : Type 0} (f : A → Option B) (m : ℕ) (es : List (ℕ × A)) → rises m es ≡ true → rises m (picked f es) ≡ true
rises_picked f m [] h = refl
rises_picked f m (e ∷ es) h = let r = risen m e es h in
    picked_rises e (f e.1) m (picked f es) r.least (rises_picked f (suc e.0) es r.rest)
  where
    picked_rises : {A B : Type 0} (e : ℕ × A) (o : Option B) (m : ℕ) (rest : List (ℕ × B)) → m ≤ e.0 → rises (suc e.0) rest ≡ true
        → rises m (picked_as e.0 o rest) ≡ true
    picked_rises e None m rest le h = rises_lower m (suc e.0) rest (omega arith) h
    picked_rises e (Some b) m rest le h = grind (arith, nat_tests)

-- AN ENTRY THAT ISN'T THERE

-- what is put below all numbers comes first
pub put_first : {A : Type 0} (es : List (ℕ × A)) (n : ℕ) (a : A) → rises (suc n) es ≡ true → put es n a ≡ (n, a) ∷ es
put_first [] n a h = refl
put_first (e ∷ es) n a h = let r = risen (suc n) e es h in grind (arith, nat_tests)

-- taking out what isn't there changes nothing
pub without_none : {A : Type 0} (es : List (ℕ × A)) (n : ℕ) → find es n ≡ None → without es n ≡ es
without_none [] n h = refl
without_none (e ∷ es) n h = grind (arith, nat_tests, without_none es n)

-- and so does dropping below the first
pub from_first : {A : Type 0} (es : List (ℕ × A)) (n : ℕ) → rises n es ≡ true → from es n ≡ es
from_first [] n h = refl
from_first (e ∷ es) n h = let r = risen n e es h in grind (arith, nat_tests)

-- what was put where nothing was is taken back
pub without_put : {A : Type 0} (es : List (ℕ × A)) (n : ℕ) (a : A) → find es n ≡ None → without (put es n a) n ≡ es
without_put [] n a h = grind (arith, nat_tests)
without_put (e ∷ es) n a h = grind (arith, nat_tests, without_put es n a)

-- THE PLACE IN THE LIST

-- the number at a place, at any default
pub number_from : {A : Type 0} (m : ℕ) (es : List (ℕ × A)) (i : ℕ) (d : ℕ × A) → rises m es ≡ true → i < length es → m ≤ (get_or es i d).0
number_from m [] i d h lt = absurd (omega arith)
number_from m (e ∷ es) zero d h lt = (risen m e es h).least
number_from m (e ∷ es) (suc i) d h lt =
    let r = risen m e es h in let rest : suc e.0 ≤ (get_or es i d).0 = number_from (suc e.0) es i d r.rest (omega arith) in omega (arith, rest, r.least)

-- numbers rise along the list
pub numbers_rise : {A : Type 0} (m : ℕ) (es : List (ℕ × A)) (i j : ℕ) (d : ℕ × A) → rises m es ≡ true → i < j → j < length es
    → (get_or es i d).0 < (get_or es j d).0
numbers_rise m [] i j d h lt in_range = absurd (omega arith)
numbers_rise m (e ∷ es) i zero d h lt in_range = absurd (omega arith)
numbers_rise m (e ∷ es) zero (suc j) d h lt in_range =
    let r = risen m e es h in let rest : suc e.0 ≤ (get_or es j d).0 = number_from (suc e.0) es j d r.rest (omega arith) in omega (arith, rest)
numbers_rise m (e ∷ es) (suc i) (suc j) d h lt in_range = numbers_rise (suc e.0) es i j d (risen m e es h).rest (omega arith) (omega arith)

-- WHAT IS PICKED OF A CHANGED TABLE

-- a number for which f gives something has that among the picked
pub picked_put_some : {A B : Type 0} (f : A → Option B) (m : ℕ) (es : List (ℕ × A)) (n : ℕ) (a : A) (b : B) → rises m es ≡ true → f a ≡ Some b
    → picked f (put es n a) ≡ put (picked f es) n b
picked_put_some f m [] n a b h is = grind (arith, nat_tests, is)
picked_put_some f m (e ∷ es) n a b h is = let r = risen m e es h in
    let rest : rises (suc e.0) (picked f es) ≡ true = rises_picked f (suc e.0) es r.rest in
    puts e n b f (f e.1) a es is refl (picked_put_some f (suc e.0) es n a b r.rest is)
    (λ lt. put_first (picked f es) n b (rises_lower (suc n) (suc e.0) (picked f es) (omega arith) rest))
  where
    puts : {A B : Type 0} (e : ℕ × A) (n : ℕ) (b : B) (f : A → Option B) (o : Option B) (a : A) (es : List (ℕ × A)) → f a ≡ Some b → f e.1 ≡ o
        → picked f (put es n a) ≡ put (picked f es) n b
        → (n < suc e.0 → put (picked f es) n b ≡ (n, b) ∷ picked f es) → picked f (put (e ∷ es) n a) ≡ put (picked_as e.0 o (picked f es)) n b
    puts e n b f None a es is here rest first = grind (arith, nat_tests, is, here, first)
    puts e n b f (Some c) a es is here rest first = grind (arith, nat_tests, is, here, first)

-- a number for which f gives nothing has nothing among the picked
pub picked_put_none : {A B : Type 0} (f : A → Option B) (m : ℕ) (es : List (ℕ × A)) (n : ℕ) (a : A) → rises m es ≡ true → f a ≡ None
    → picked f (put es n a) ≡ without (picked f es) n
picked_put_none f m [] n a h is = grind (arith, nat_tests, is)
picked_put_none f m (e ∷ es) n a h is = let r = risen m e es h in
    let rest : rises (suc e.0) (picked f es) ≡ true = rises_picked f (suc e.0) es r.rest in
    puts e n f (f e.1) a es is refl (picked_put_none f (suc e.0) es n a r.rest is)
    (λ lt. without_none (picked f es) n (find_below (suc e.0) (picked f es) n rest lt))
  where
    puts : {A B : Type 0} (e : ℕ × A) (n : ℕ) (f : A → Option B) (o : Option B) (a : A) (es : List (ℕ × A)) → f a ≡ None → f e.1 ≡ o
        → picked f (put es n a) ≡ without (picked f es) n
        → (n < suc e.0 → without (picked f es) n ≡ picked f es) → picked f (put (e ∷ es) n a) ≡ without (picked_as e.0 o (picked f es)) n
    puts e n f None a es is here rest first = grind (arith, nat_tests, is, here, first)
    puts e n f (Some c) a es is here rest first = grind (arith, nat_tests, is, here, first)

pub picked_without : {A B : Type 0} (f : A → Option B) (m : ℕ) (es : List (ℕ × A)) (n : ℕ) → rises m es ≡ true
    → picked f (without es n) ≡ without (picked f es) n
picked_without f m [] n h = refl
picked_without f m (e ∷ es) n h = let r = risen m e es h in
    let rest : rises (suc e.0) (picked f es) ≡ true = rises_picked f (suc e.0) es r.rest in
    goes e n f (f e.1) es refl (picked_without f (suc e.0) es n r.rest) (λ lt. without_none (picked f es) n (find_below (suc e.0) (picked f es) n rest lt))
  where
    goes : {A B : Type 0} (e : ℕ × A) (n : ℕ) (f : A → Option B) (o : Option B) (es : List (ℕ × A)) → f e.1 ≡ o
        → picked f (without es n) ≡ without (picked f es) n
        → (n < suc e.0 → without (picked f es) n ≡ picked f es) → picked f (without (e ∷ es) n) ≡ without (picked_as e.0 o (picked f es)) n
    goes e n f None es here rest first = grind (arith, nat_tests, here, first)
    goes e n f (Some c) es here rest first = grind (arith, nat_tests, here, first)

pub picked_from : {A B : Type 0} (f : A → Option B) (m : ℕ) (es : List (ℕ × A)) (n : ℕ) → rises m es ≡ true → picked f (from es n) ≡ from (picked f es) n
picked_from f m [] n h = refl
picked_from f m (e ∷ es) n h = let r = risen m e es h in
    let rest : rises (suc e.0) (picked f es) ≡ true = rises_picked f (suc e.0) es r.rest in
    goes e n f (f e.1) es refl (picked_from f (suc e.0) es n r.rest)
    (λ le. from_first (picked f es) n (rises_lower n (suc e.0) (picked f es) (omega arith) rest))
  where
    goes : {A B : Type 0} (e : ℕ × A) (n : ℕ) (f : A → Option B) (o : Option B) (es : List (ℕ × A)) → f e.1 ≡ o → picked f (from es n) ≡ from (picked f es) n
        → (n ≤ e.0 → from (picked f es) n ≡ picked f es) → picked f (from (e ∷ es) n) ≡ from (picked_as e.0 o (picked f es)) n
    goes e n f None es here rest first = grind (arith, nat_tests, here, first)
    goes e n f (Some c) es here rest first = grind (arith, nat_tests, here, first)

-- THE LEAST NUMBER THAT IS OPEN

-- a number that doesn't pass, below which all from n on pass, is the least that is open
pub least_open_is : {A : Type 0} (test : A → Bool) (m n f : ℕ) (es : List (ℕ × A)) → rises m es ≡ true → n ≤ f
    → ((k : ℕ) → n ≤ k → k < f → passes test (find es k) ≡ true) → passes test (find es f) ≡ false → least_open test n es ≡ f
least_open_is test m n f [] h le all fails = grind (arith, nat_tests, all n)
least_open_is test m n f (e ∷ es) h le all fails =
    let r = risen m e es h in
    let below : n < suc e.0 → find es n ≡ None = λ lt. find_below (suc e.0) es n r.rest lt in
    let skips : e.0 < n → least_open test n es ≡ f =
    λ lt. least_open_is test (suc e.0) n f es r.rest le (λ k low high. grind (arith, nat_tests, all k low high)) (grind (arith, nat_tests)) in
    let goes_on : e.0 ≡ n → n < f → least_open test (suc n) es ≡ f =
    λ same lt. least_open_is test (suc e.0) (suc n) f es r.rest (omega arith) (λ k low high. grind (
      arith,
      nat_tests,
      all k (omega arith) high,
    )) (grind (arith, nat_tests)) in
    grind (arith, nat_tests, below, skips, goes_on, all n (omega arith))

pub least_open_from : {A : Type 0} (test : A → Bool) (n : ℕ) (es : List (ℕ × A)) → n ≤ least_open test n es
least_open_from test n [] = omega arith
least_open_from test n (e ∷ es) = grind (arith, nat_tests, least_open_from test n es, least_open_from test (suc n) es)

-- all from n on and below it pass
pub least_open_below : {A : Type 0} (test : A → Bool) (n : ℕ) (es : List (ℕ × A)) (k : ℕ) → n ≤ k → k < least_open test n es → passes test (find es k) ≡ true
least_open_below test n [] k low high = absurd (omega arith)
least_open_below test n (e ∷ es) k low high = grind (arith, nat_tests, least_open_below test n es k, least_open_below test (suc n) es k)

-- and it doesn't
pub least_open_fails : {A : Type 0} (test : A → Bool) (m n : ℕ) (es : List (ℕ × A)) → rises m es ≡ true → passes test (find es (least_open test n es)) ≡ false
least_open_fails test m n [] h = refl
least_open_fails test m n (e ∷ es) h =
    let r = risen m e es h in
    let below : n < suc e.0 → find es n ≡ None = λ lt. find_below (suc e.0) es n r.rest lt in
    grind (
      arith,
      nat_tests,
      below,
      least_open_fails test (suc e.0) n es r.rest,
      least_open_fails test (suc e.0) (suc n) es r.rest,
      least_open_from test n es,
      least_open_from test (suc n) es,
    )

-- THE FIRST ENTRY

-- it is found, and no lower number is
pub first_found : {A : Type 0} (es : List (ℕ × A)) (e : ℕ × A) → first es ≡ Some e → find es e.0 ≡ Some e.1
first_found [] e h = absurd (cc)
first_found (d ∷ es) e h = let same : d ≡ e = (cc) in rw (← same) (grind (arith, nat_tests))

pub first_least : {A : Type 0} (m : ℕ) (es : List (ℕ × A)) (e : ℕ × A) (k : ℕ) → rises m es ≡ true → first es ≡ Some e → k < e.0 → find es k ≡ None
first_least m [] e k h f lt = absurd (cc)
first_least m (d ∷ es) e k h f lt =
    let same : d ≡ e = (cc) in let lt' : k < d.0 = rw same lt in let r = risen m d es h in grind (arith, nat_tests, find_below (suc d.0) es k r.rest)
