-- Orders of the numbers of a job's segments.
use Rattle.std.specs.Prelude.{◌≡◌, ℕ, zero, suc, ◌+◌, ◌==◌, Bool, true, false, ◌&&◌, ◌||◌, List, [], ◌∷◌, ◌++◌, if◌then◌else◌, nat_lt}

-- the numbers below n, in order
abbrev pub below : ℕ → List ℕ
below zero = []
below (suc n) = below n ++ n ∷ []

-- whether i stands in the list
abbrev pub mem : ℕ → List ℕ → Bool
mem i [] = false
mem i (j ∷ js) = (j == i) || mem i js

-- how often i stands in the list
abbrev pub times : ℕ → List ℕ → ℕ
times i [] = 0
times i (j ∷ js) = (if j == i then 1 else 0) + times i js

-- each number below n once, and no others
abbrev pub IsOrder : ℕ → List ℕ → Type 0
IsOrder n order = (i : ℕ) → times i order ≡ (if nat_lt i n then 1 else 0)

-- the same as a test: all are below n, and each number below n is there once
abbrev pub all_below : ℕ → List ℕ → Bool
all_below n [] = true
all_below n (i ∷ is) = nat_lt i n && all_below n is

abbrev pub each_once : ℕ → List ℕ → Bool
each_once zero order = true
each_once (suc n) order = (times n order == 1) && each_once n order

abbrev pub is_order : ℕ → List ℕ → Bool
is_order n order = all_below n order && each_once n order
