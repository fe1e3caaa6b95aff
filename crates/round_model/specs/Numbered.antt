-- Tables by number: their entries in order of the numbers, and one for each number.
use Rattle.std.specs.Prelude.{ℕ, suc, ◌-◌, Bool, true, false, ◌&&◌, ◌==◌, nat_lt, nat_le, List, [], ◌∷◌, length, drop, Option, Some, None, if◌then◌else◌}

-- each number is at least n and above the one before it
abbrev pub rises : {A : Type 0} → ℕ → List (ℕ × A) → Bool
rises n [] = true
rises n (e ∷ es) = nat_le n e.0 && rises (suc e.0) es

-- what the table has for the number
abbrev pub find : {A : Type 0} → List (ℕ × A) → ℕ → Option A
find [] n = None
find (e ∷ es) n = if e.0 == n then Some e.1 else find es n

-- the number has this from now on
abbrev pub put : {A : Type 0} → List (ℕ × A) → ℕ → A → List (ℕ × A)
put [] n a = (n, a) ∷ []
put (e ∷ es) n a = if nat_lt e.0 n then e ∷ put es n a else if e.0 == n then (n, a) ∷ es else (n, a) ∷ e ∷ es

-- the number has nothing from now on
abbrev pub without : {A : Type 0} → List (ℕ × A) → ℕ → List (ℕ × A)
without [] n = []
without (e ∷ es) n = if e.0 == n then es else e ∷ without es n

-- the entries from this number on
abbrev pub from : {A : Type 0} → List (ℕ × A) → ℕ → List (ℕ × A)
from [] n = []
from (e ∷ es) n = if nat_lt e.0 n then from es n else e ∷ es

-- the entry with the least number
abbrev pub first : {A : Type 0} → List (ℕ × A) → Option (ℕ × A)
first [] = None
first (e ∷ es) = Some e

-- the entries with the highest numbers, so many, ascending
abbrev pub last : {A : Type 0} → ℕ → List (ℕ × A) → List (ℕ × A)
last k es = drop (length es - k) es

abbrev pub picked_as : {B : Type 0} → ℕ → Option B → List (ℕ × B) → List (ℕ × B)
picked_as n None rest = rest
picked_as n (Some b) rest = (n, b) ∷ rest

-- the entries for which f gives something, with what it gives
abbrev pub picked : {A B : Type 0} → (A → Option B) → List (ℕ × A) → List (ℕ × B)
picked f [] = []
picked f (e ∷ es) = picked_as e.0 (f e.1) (picked f es)

-- there is something, and it passes the test
abbrev pub passes : {A : Type 0} → (A → Bool) → Option A → Bool
passes test None = false
passes test (Some a) = test a

-- from n on, the least number that has nothing that passes the test
abbrev pub least_open : {A : Type 0} → (A → Bool) → ℕ → List (ℕ × A) → ℕ
least_open test n [] = n
least_open test n (e ∷ es) =
    if nat_lt e.0 n then least_open test n es
    else if (e.0 == n) && test e.1 then least_open test (suc n) es
    else n
