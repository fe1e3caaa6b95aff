-- Sets that share a lock, and the first group that a segment fits.
use Rattle.std.proofs.Common.{◌≡◌, ℕ, zero, suc, ◌+◌, ◌<◌, ◌≤◌, Bool, true, false, not, cond, ◌&&◌, ◌||◌, List, [], ◌∷◌}
use Rattle.std.proofs.Common.{◌++◌, length, get_or, set, drop, refl, sym, ap, ◌∙◌, add-one, arith}
use Rattle.std.proofs.lemmas.Bool.{or_right}
use Rattle.std.proofs.lemmas.List.{get_or_default}
use Rattle.std.specs.List.{All}
use Rattle.std.specs.declared.vec.Vec.{Vec}
use Rattle.std.specs.declared.alloc.Global.{Global}
use Rattle.aeg_base.specs.Locks.{Shares, has_lock, no_locks}
use Rattle.exec_model.specs.Groups.{shares_lock, fits, place}
use Rattle.key_mixer.specs.Lists.{lists_of, set_at, FirstFit}

both_true : (x y r : Bool) → x ≡ true → y ≡ true → ((x && y) || r) ≡ true
both_true true true r a b = refl
both_true true false r a b = cc
both_true false y r a b = cc

shares_at : (a b : List Bool) (lock : ℕ) → has_lock a lock ≡ true → has_lock b lock ≡ true → shares_lock a b ≡ true
shares_at [] b lock p q = cc
shares_at (x ∷ xs) [] lock p q = cc
shares_at (x ∷ xs) (y ∷ ys) zero p q = both_true x y (shares_lock xs ys) p q
shares_at (x ∷ xs) (y ∷ ys) (suc lock) p q = or_right (x && y) (shares_lock xs ys) (shares_at xs ys lock p q)

shares_told : (a b : List Bool) → Shares a b → shares_lock a b ≡ true
shares_told a b h = shares_at a b h.0 h.1.0 h.1.1

pub told_shares : (a b : List Bool) → shares_lock a b ≡ true → Shares a b
told_shares [] b h = cc
told_shares (x ∷ xs) [] h = cc
told_shares (x ∷ xs) (y ∷ ys) h = at x y refl refl h (told_shares xs ys)
  where
    later : Shares xs ys → Shares (x ∷ xs) (y ∷ ys)
    later z = (suc z.0, z.1)

    at : (a b : Bool) → x ≡ a → y ≡ b → ((a && b) || shares_lock xs ys) ≡ true → (shares_lock xs ys ≡ true → Shares xs ys) → Shares (x ∷ xs) (y ∷ ys)
    at true true p q h rec = (0, (p, q))
    at true false p q h rec = later (rec h)
    at false b p q h rec = later (rec h)

-- no group before this place fits
abbrev pub NoneFits : (ℕ → List Bool) → ℕ → List (List ℕ) → ℕ → Type 0
NoneFits sets i gs zero = Unit {0}
NoneFits sets i [] (suc at) = Unit {0}
NoneFits sets i (g ∷ gs) (suc at) = (fits sets (sets i) g ≡ false) × NoneFits sets i gs at

pub none_more : (sets : ℕ → List Bool) (i : ℕ) (gs : List (List ℕ)) (at : ℕ) → at < length gs → NoneFits sets i gs at
    → fits sets (sets i) (get_or gs at []) ≡ false → NoneFits sets i gs (suc at)
none_more sets i [] at lt h f = absurd (omega arith)
none_more sets i (g ∷ gs) zero lt h f = (f, tt)
none_more sets i (g ∷ gs) (suc at) lt h f = (h.0, none_more sets i gs at (omega arith) h.1 f)

pub first_from : (sets : ℕ → List Bool) (i : ℕ) (gs : List (List ℕ)) (at : ℕ) → at < length gs → NoneFits sets i gs at
    → fits sets (sets i) (get_or gs at []) ≡ true → FirstFit sets i gs at
first_from sets i [] at lt h f = tt
first_from sets i (g ∷ gs) zero lt h f = f
first_from sets i (g ∷ gs) (suc at) lt h f = (h.0, first_from sets i gs at (omega arith) h.1 f)

pub first_none : (sets : ℕ → List Bool) (i : ℕ) (gs : List (List ℕ)) (at : ℕ) → length gs ≤ at → NoneFits sets i gs at → FirstFit sets i gs at
first_none sets i [] at le h = tt
first_none sets i (g ∷ gs) zero le h = absurd (omega arith)
first_none sets i (g ∷ gs) (suc at) le h = (h.0, first_none sets i gs at (omega arith) h.1)

place_by : (sets : ℕ → List Bool) (i : ℕ) (g : List ℕ) (gs : List (List ℕ)) (b : Bool) → fits sets (sets i) g ≡ b
    → place sets i (g ∷ gs) ≡ cond b ((g ++ i ∷ []) ∷ gs) (g ∷ place sets i gs)
place_by sets i g gs b e = ap (λ c. cond c ((g ++ i ∷ []) ∷ gs) (g ∷ place sets i gs)) e

pub place_first : (sets : ℕ → List Bool) (i : ℕ) (gs : List (List ℕ)) (at : ℕ) → FirstFit sets i gs at → at < length gs
    → place sets i gs ≡ set gs at (get_or gs at [] ++ i ∷ [])
place_first sets i [] at h lt = absurd (omega arith)
place_first sets i (g ∷ gs) zero h lt = place_by sets i g gs true h
place_first sets i (g ∷ gs) (suc at) h lt = place_by sets i g gs false h.0 ∙ ap (λ r. g ∷ r) (place_first sets i gs at h.1 (omega arith))

pub place_last : (sets : ℕ → List Bool) (i : ℕ) (gs : List (List ℕ)) (at : ℕ) → FirstFit sets i gs at → length gs ≤ at → place sets i gs ≡ gs ++ (i ∷ []) ∷ []
place_last sets i [] at h le = refl
place_last sets i (g ∷ gs) zero h le = absurd (omega arith)
place_last sets i (g ∷ gs) (suc at) h le = place_by sets i g gs false h.0 ∙ ap (λ r. g ∷ r) (place_last sets i gs at h.1 (omega arith))

-- the member at a place
fits_busy : (sets : ℕ → List Bool) (s : List Bool) (group : List ℕ) (k : ℕ) → k < length group
    → shares_lock s (sets (get_or group k 0)) ≡ true → fits sets s (drop k group) ≡ false
fits_busy sets s [] k lt h = absurd (omega arith)
fits_busy sets s (j ∷ js) zero lt h = ap (λ b. not b && fits sets s js) h
fits_busy sets s (j ∷ js) (suc k) lt h = fits_busy sets s js k (omega arith) h

fits_free : (sets : ℕ → List Bool) (s : List Bool) (group : List ℕ) (k : ℕ) → k < length group
    → shares_lock s (sets (get_or group k 0)) ≡ false → fits sets s (drop (suc k) group) ≡ fits sets s (drop k group)
fits_free sets s [] k lt h = absurd (omega arith)
fits_free sets s (j ∷ js) zero lt h = sym (ap (λ b. not b && fits sets s js) h)
fits_free sets s (j ∷ js) (suc k) lt h = fits_free sets s js k (omega arith) h

not_shared : (a b : List Bool) → (Shares a b → ⊥) → shares_lock a b ≡ false
not_shared a b h = at (shares_lock a b) refl
  where
    at : (c : Bool) → shares_lock a b ≡ c → c ≡ false
    at true e = absurd (h (told_shares a b e))
    at false e = refl

-- the members of a group, asked one after another
module _ (sets : List (List Bool)) (group : List ℕ) (i k at other : ℕ) (a b : List Bool) (mine : a ≡ get_or sets at a)
    (mine_at : at ≡ i) (here : i < length sets) (theirs : b ≡ get_or sets other b) (theirs_at : other ≡ get_or group k 0)
    (members : All (λ j. j < length sets) group) (lt : k < length group) where
  set_here : (at j : ℕ) (a : List Bool) → a ≡ get_or sets at a → at ≡ j → j < length sets → a ≡ set_at sets j
  set_here at j a is e lt = is ∙ get_or_default sets at a no_locks (omega arith) ∙ ap (set_at sets) e

  same : shares_lock (set_at sets i) (set_at sets (get_or group k 0)) ≡ shares_lock a b
  same = ap (λ x. shares_lock x (set_at sets (get_or group k 0))) (sym (set_here at i a mine mine_at here))
      ∙ ap (shares_lock a) (sym (set_here other (get_or group k 0) b theirs theirs_at (members k 0 lt)))

  pub fits_met : Shares a b → fits (set_at sets) (set_at sets i) (drop k group) ≡ false
  fits_met h = fits_busy (set_at sets) (set_at sets i) group k lt (same ∙ shares_told a b h)

  pub fits_apart : (Shares a b → ⊥) → fits (set_at sets) (set_at sets i) (drop (k + 1) group) ≡ fits (set_at sets) (set_at sets i) (drop k group)
  fits_apart h =
      ap (λ n. fits (set_at sets) (set_at sets i) (drop n group)) (add-one k)
      ∙ fits_free (set_at sets) (set_at sets i) group k lt (same ∙ not_shared a b h)

-- groups as lists
pub get-lists : (groups : List (Vec ℕ Global)) (at : ℕ) (v : Vec ℕ Global) → at < length groups → get_or (lists_of groups) at [] ≡ (get_or groups at v).items
get-lists [] at v lt = absurd (omega arith)
get-lists (g ∷ gs) zero v lt = refl
get-lists (g ∷ gs) (suc at) v lt = get-lists gs at v (omega arith)

-- what is told of the group at a place
pub fits_place : (sets : ℕ → List Bool) (i : ℕ) (groups : List (Vec ℕ Global)) (at : ℕ) (v : Vec ℕ Global) (xs : List ℕ)
    → at < length groups → v ≡ get_or groups at v → xs ≡ v.items
    → fits sets (sets i) (get_or (lists_of groups) at []) ≡ fits sets (sets i) xs
fits_place sets i groups at v xs lt is same = ap (fits sets (sets i)) (get-lists groups at v lt ∙ ap (λ v. v.items) (sym is) ∙ sym same)

pub length-lists : (groups : List (Vec ℕ Global)) → length (lists_of groups) ≡ length groups
length-lists [] = refl
length-lists (g ∷ gs) = let h = length-lists gs in omega arith

pub lists-set : (groups : List (Vec ℕ Global)) (at : ℕ) (v : Vec ℕ Global) → lists_of (set groups at v) ≡ set (lists_of groups) at v.items
lists-set [] at v = refl
lists-set (g ∷ gs) zero v = refl
lists-set (g ∷ gs) (suc at) v = ap (λ r. g.items ∷ r) (lists-set gs at v)

pub lists-append : (groups more : List (Vec ℕ Global)) → lists_of (groups ++ more) ≡ lists_of groups ++ lists_of more
lists-append [] more = refl
lists-append (g ∷ gs) more = ap (λ r. g.items ∷ r) (lists-append gs more)
