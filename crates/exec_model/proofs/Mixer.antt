-- The groups hold each segment once, and none is empty.
use Rattle.std.proofs.Common.{◌≡◌, ℕ, suc, zero, ◌+◌, ◌==◌, Bool, true, false, List, [], ◌∷◌, ◌++◌, ap, ◌∙◌, cond, ltb, arith}
use Rattle.std.proofs.lemmas.Bool.Decides.{nat_tests}
use Rattle.exec_model.specs.Machine.{concat}
use Rattle.exec_model.specs.Groups.{times, AreFull, IsOrder, fits, place, mix}
use Rattle.exec_model.proofs.Basics.{times-append}

AreFull-append : (g : List ℕ) (i : ℕ) (gs : List (List ℕ)) → AreFull gs → AreFull ((g ++ i ∷ []) ∷ gs)
AreFull-append [] i gs h = h
AreFull-append (x ∷ xs) i gs h = h

AreFull-first : (g : List ℕ) (gs : List (List ℕ)) → AreFull (g ∷ gs) → AreFull gs
AreFull-first [] gs h = absurd h
AreFull-first (x ∷ xs) gs h = h

AreFull-second : (g : List ℕ) (gs hs : List (List ℕ)) → AreFull (g ∷ gs) → AreFull hs → AreFull (g ∷ hs)
AreFull-second [] gs hs h k = absurd h
AreFull-second (x ∷ xs) gs hs h k = k

AreFull-place : (sets : ℕ → List Bool) (i : ℕ) (gs : List (List ℕ)) → AreFull gs → AreFull (place sets i gs)
AreFull-place sets i [] h = tt
AreFull-place sets i (g ∷ gs) h = at (fits sets (sets i) g) (AreFull-place sets i gs (AreFull-first g gs h))
  where
    at : (c : Bool) → AreFull (place sets i gs) → AreFull (cond c ((g ++ i ∷ []) ∷ gs) (g ∷ place sets i gs))
    at true r = AreFull-append g i gs (AreFull-first g gs h)
    at false r = AreFull-second g gs (place sets i gs) h r

times-place : (sets : ℕ → List Bool) (i : ℕ) (gs : List (List ℕ)) (j : ℕ) → times j (concat (place sets i gs)) ≡ times j (concat gs) + cond (i == j) 1 0
times-place sets i [] j = omega arith
times-place sets i (g ∷ gs) j = at (fits sets (sets i) g) (times-place sets i gs j)
  where
    at : (c : Bool) → times j (concat (place sets i gs)) ≡ times j (concat gs) + cond (i == j) 1 0
        → times j (concat (cond c ((g ++ i ∷ []) ∷ gs) (g ∷ place sets i gs))) ≡ times j (g ++ concat gs) + cond (i == j) 1 0
    at true r =
        let a = times-append j (g ++ i ∷ []) (concat gs) in let b = times-append j g (i ∷ []) in let c = times-append j g (concat gs) in omega arith
    at false r =
        let a = times-append j g (concat (place sets i gs)) in let c = times-append j g (concat gs) in omega arith

pub AreFull-mix : (sets : ℕ → List Bool) (n : ℕ) → AreFull (mix sets n)
AreFull-mix sets zero = tt
AreFull-mix sets (suc n) = AreFull-place sets n (mix sets n) (AreFull-mix sets n)

one_more : (j n : ℕ) → cond (ltb j n) 1 0 + cond (n == j) 1 0 ≡ cond (ltb j (suc n)) 1 0
one_more j n = grind (arith, nat_tests)

pub times-mix : (sets : ℕ → List Bool) (n : ℕ) → IsOrder n (concat (mix sets n))
times-mix sets zero j = grind (arith, nat_tests)
times-mix sets (suc n) j = times-place sets n (mix sets n) j ∙ ap (λ x. x + cond (n == j) 1 0) (times-mix sets n j) ∙ one_more j n
