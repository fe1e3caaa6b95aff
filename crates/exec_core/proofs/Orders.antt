-- Orders of segments, each in a group of its own.
use Rattle.std.proofs.Common.{◌≡◌, ℕ, zero, suc, ◌+◌, ◌≤◌, ◌==◌, Bool, true, false, cond, List, [], ◌∷◌, length, map}
use Rattle.std.proofs.Common.{refl, ap, ◌∙◌, inl, inr, ◌⊎◌, ◌≢◌, length-append, arith}
use Rattle.std.specs.Prelude.{nat_lt, unwrap_or}
use Rattle.std.proofs.lemmas.Bool.Decides.{nat_tests, eqb_tells}
use Rattle.aeg_base.specs.Store.{Store}
use Rattle.exec_model.specs.declared.job.Seg.{Seg}
use Rattle.exec_model.specs.Serial.{serial, serial_end}
use Rattle.exec_model.specs.Machine.{concat, run, end_of}
use Rattle.exec_model.specs.Groups.{times, AreFull, IsOrder}
use Rattle.exec_model.specs.Jobs.{Beginnings, plan_at, said_nothing, below, serial_store, serial_ends}
use Rattle.exec_model.proofs.Outcome.{Whole, Serial, run-idle, run-serial, map-same, small}
use Rattle.exec_core.specs.Jobs.{run_in_groups, serial_run}

-- the list without a number
abbrev without : ℕ → List ℕ → List ℕ
without n [] = []
without n (x ∷ xs) = cond (x == n) (without n xs) (x ∷ without n xs)

length_without : (n : ℕ) (xs : List ℕ) → length xs ≡ length (without n xs) + times n xs
length_without n [] = refl
length_without n (x ∷ xs) = at (x == n) (length_without n xs)
  where
    at : (c : Bool) → length xs ≡ length (without n xs) + times n xs
        → length (x ∷ xs) ≡ length (cond c (without n xs) (x ∷ without n xs)) + (cond c 1 0 + times n xs)
    at true h = omega arith
    at false h = omega arith

times_without : (n : ℕ) (xs : List ℕ) (j : ℕ) → times j (without n xs) ≤ times j xs
times_without n [] j = omega arith
times_without n (x ∷ xs) j = at (x == n) (times_without n xs j)
  where
    at : (c : Bool) → times j (without n xs) ≤ times j xs → times j (cond c (without n xs) (x ∷ without n xs)) ≤ cond (x == j) 1 0 + times j xs
    at true h = omega arith
    at false h = omega arith

gone : (n : ℕ) (xs : List ℕ) → times n (without n xs) ≡ 0
gone n [] = refl
gone n (x ∷ xs) = at (x == n) refl (gone n xs)
  where
    at : (c : Bool) → (x == n) ≡ c → times n (without n xs) ≡ 0 → times n (cond c (without n xs) (x ∷ without n xs)) ≡ 0
    at true e h = h
    at false e h = let z : ◌≡◌ {A = ℕ} (cond (x == n) 1 0) 0 = ap {B = ℕ} (λ b. cond b 1 0) e in omega arith

self_times : (x : ℕ) (xs : List ℕ) → 1 ≤ times x (x ∷ xs)
self_times x xs =
    let one : (x == x) ≡ true = grind (arith, nat_tests) in
    let z : ◌≡◌ {A = ℕ} (cond (x == x) 1 0) 1 = ap {B = ℕ} (λ b. cond b 1 0) one in omega arith

-- a list of numbers below n, none twice, has at most n of them
pub length_order : (n : ℕ) (xs : List ℕ) → ((i : ℕ) → times i xs ≤ cond (nat_lt i n) 1 0) → length xs ≤ n
length_order zero [] h = omega arith
length_order zero (x ∷ xs) h = let a = h x in let b = self_times x xs in let z : ◌≡◌ {A = ℕ} (cond (nat_lt x 0) 1 0)
    0 = grind (arith, nat_tests) in absurd (omega arith)
length_order (suc n) xs h =
    let a = length_without n xs in
    let b = length_order n (without n xs) (λ i. at i (i == n) (eqb_tells i n)) in
    let c = h n in
    let d : ◌≡◌ {A = ℕ} (cond (nat_lt n (suc n)) 1 0) 1 = grind (arith, nat_tests) in
    omega arith
  where
    less : (i : ℕ) → i ≢ n → ◌≡◌ {A = ℕ} (cond (nat_lt i (suc n)) 1 0) (cond (nat_lt i n) 1 0)
    less i ne = grind (arith, nat_tests)

    at : (i : ℕ) (c : Bool) → ((c ≡ true) × (i ≡ n)) ⊎ ((c ≡ false) × (i ≢ n)) → times i (without n xs) ≤ cond (nat_lt i n) 1 0
    at i true (inl z) = let e = ap (λ j. times j (without n xs)) z.1 in let k = gone n xs in omega arith
    at i true (inr z) = cc
    at i false (inl z) = cc
    at i false (inr z) = let a = times_without n xs i in let b = h i in let c = less i z.1 in omega arith

pub full_length : (gs : List (List ℕ)) → AreFull gs → length gs ≤ length (concat gs)
full_length [] f = omega arith
full_length ([] ∷ gs) f = absurd f
full_length ((x ∷ xs) ∷ gs) f = let a = full_length gs f in let b = length-append xs (concat gs) in omega arith

pub order_once : (n : ℕ) (xs : List ℕ) → IsOrder n xs → (i : ℕ) → times i xs ≤ 1
order_once n xs h i = let a = h i in let b = small (nat_lt i n) in omega arith

pub order_groups : (n : ℕ) (gs : List (List ℕ)) → AreFull gs → IsOrder n (concat gs) → length gs ≤ n
order_groups n gs f h = let a = full_length gs f in let b = length_order n (concat gs) (λ i. let e = h i in omega arith) in omega arith

-- each number in a group of its own
abbrev pub singles : List ℕ → List (List ℕ)
singles order = map (λ i. i ∷ []) order

pub singles_full : (order : List ℕ) → AreFull (singles order)
singles_full [] = tt
singles_full (i ∷ is) = singles_full is

pub singles_all : (order : List ℕ) → concat (singles order) ≡ order
singles_all [] = refl
singles_all (i ∷ is) = ap (λ xs. i ∷ xs) (singles_all is)

-- so they run one after another
pub singles_run : (begins : Beginnings) (segs : List Seg) (s : Store) (order : List ℕ) → IsOrder (length segs) order
    → run_in_groups begins segs (singles order) s [] ≡ serial_run begins segs s order
unfolding serial_store serial_ends
singles_run begins segs s order h =
    let plans = plan_at begins segs in
    let gs = singles order in
    let all = singles_all order in
    let one : (i : ℕ) → times i (concat gs) ≤ 1 = λ i. let a = order_once (length segs) order h i in let e = ap (times i) all in omega arith in
    let t = run plans gs s [] in
    let w : Whole plans s (concat gs) t = run-idle plans gs s (singles_full order) one in
    let z : Serial plans s (concat gs) t = run-serial plans gs s [] (singles_full order) one in
    let past : t.past ≡ order = w.order_is ∙ all in
    let st : t.steps ≡ (serial_run begins segs s order).steps = w.steps ∙ ap (λ xs. (serial_run begins segs s xs).steps) all in
    let sr : t.store ≡ serial plans s order = z.store ∙ ap (serial plans s) past in
    let es : map (λ i. unwrap_or (end_of (t.progress i)) said_nothing) (below (length segs))
    ≡ map (λ i. unwrap_or (serial_end plans s order i) said_nothing) (below (length segs)) =
    map-same (λ i. unwrap_or (end_of (t.progress i)) said_nothing)
    (λ i. unwrap_or (serial_end plans s order i) said_nothing) (below (length segs))
    (λ i. ap (λ o. unwrap_or o said_nothing) (z.ends i ∙ ap (λ xs. serial_end plans s xs i) past)) in
    λ k. record { steps = st k; order = past k; redo = w.redo k; store = sr k; ends = es k }
