-- Lists of segments, and what a serial run does at an append.
pub use Rattle.svc_api.proofs.Orders.{times-append}
use Rattle.std.proofs.Common.{◌≡◌, ℕ, ◌+◌, ◌<◌, ◌==◌, Bool, true, false, ◌||◌, List, [], ◌∷◌, ◌++◌, Option, Some, None, refl, cond, arith}
use Rattle.std.proofs.lemmas.Bool.{or_left, eq-eqb}
use Rattle.aeg_base.specs.Store.{Store}
use Rattle.svc_api.specs.declared.action.Ending.{Ending}
use Rattle.svc_api.specs.Plan.{Plan, store_after, ending_of}
use Rattle.exec_model.specs.Serial.{serial, serial_end}
use Rattle.svc_api.specs.Orders.{mem}
use Rattle.exec_model.specs.Groups.{times}

pub serial-append : (plan : ℕ → Plan) (s : Store) (xs ys : List ℕ) → serial plan s (xs ++ ys) ≡ serial plan (serial plan s xs) ys
serial-append plan s [] ys = refl
serial-append plan s (x ∷ xs) ys = serial-append plan (store_after (plan x) s) xs ys

abbrev pub or_else : Option Ending → Option Ending → Option Ending
or_else None y = y
or_else (Some e) y = Some e

or_else-if : (b : Bool) (e : Ending) (x y z : Option Ending) → z ≡ or_else x y → cond b (Some e) z ≡ or_else (cond b (Some e) x) y
or_else-if true e x y z h = refl
or_else-if false e x y z h = h

pub serial_end-append : (plan : ℕ → Plan) (s : Store) (xs ys : List ℕ) (j : ℕ)
    → serial_end plan s (xs ++ ys) j ≡ or_else (serial_end plan s xs j) (serial_end plan (serial plan s xs) ys j)
serial_end-append plan s [] ys j = refl
serial_end-append plan s (x ∷ xs) ys j =
    or_else-if (x == j) (ending_of (plan x) s) _ _ _ (serial_end-append plan (store_after (plan x) s) xs ys j)

-- the first of a list is in it
pub mem-first : (x : ℕ) (xs : List ℕ) → mem x (x ∷ xs) ≡ true
mem-first x xs = or_left (x == x) (mem x xs) (eq-eqb x x refl)

pub times-mem : (i : ℕ) (xs : List ℕ) → mem i xs ≡ true → 0 < times i xs
times-mem i [] h = cc
times-mem i (x ∷ xs) h = at (times-mem i xs) (x == i) h
  where
    at : (mem i xs ≡ true → 0 < times i xs) → (b : Bool) → (b || mem i xs) ≡ true → 0 < cond b 1 0 + times i xs
    at rec true h = omega arith
    at rec false h = let k = rec h in omega arith

pub times-not_mem : (i : ℕ) (xs : List ℕ) → mem i xs ≡ false → times i xs ≡ 0
times-not_mem i [] h = refl
times-not_mem i (x ∷ xs) h = at (times-not_mem i xs) (x == i) h
  where
    at : (mem i xs ≡ false → times i xs ≡ 0) → (b : Bool) → (b || mem i xs) ≡ false → cond b 1 0 + times i xs ≡ 0
    at rec true h = cc
    at rec false h = let k = rec h in omega arith

pub serial_end-none : (plan : ℕ → Plan) (s : Store) (xs : List ℕ) (j : ℕ) → times j xs ≡ 0 → serial_end plan s xs j ≡ None
serial_end-none plan s [] j h = refl
serial_end-none plan s (x ∷ xs) j h = at (serial_end-none plan (store_after (plan x) s) xs j) (x == j) h
  where
    at : (times j xs ≡ 0 → serial_end plan (store_after (plan x) s) xs j ≡ None) → (b : Bool)
        → cond b 1 0 + times j xs ≡ 0 → cond b (Some (ending_of (plan x) s)) (serial_end plan (store_after (plan x) s) xs j) ≡ None
    at rec true h = absurd (omega arith)
    at rec false h = rec (omega arith)

pub serial_end-some : (plan : ℕ → Plan) (s : Store) (xs : List ℕ) (j : ℕ) → 0 < times j xs → (e : Ending) × (serial_end plan s xs j ≡ Some e)
serial_end-some plan s [] j h = absurd (omega arith)
serial_end-some plan s (x ∷ xs) j h = at (serial_end-some plan (store_after (plan x) s) xs j) (x == j) h
  where
    at : (0 < times j xs → (e : Ending) × (serial_end plan (store_after (plan x) s) xs j ≡ Some e)) → (b : Bool)
        → 0 < cond b 1 0 + times j xs → (e : Ending)
        × (cond b (Some (ending_of (plan x) s)) (serial_end plan (store_after (plan x) s) xs j) ≡ Some e)
    at rec true h = (ending_of (plan x) s, refl)
    at rec false h = rec (omega arith)
