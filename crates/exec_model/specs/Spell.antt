-- The schedule that spells an order of whole segments.
use Rattle.std.specs.Prelude.{◌≡◌, ℕ, zero, suc, List, [], ◌∷◌, ◌++◌}
use Rattle.aeg_base.specs.Store.{Store, value_at, written}
use Rattle.svc_api.specs.Plan.{Plan, Reads, Writes, Ends, store_after}
use Rattle.svc_api.specs.Orders.{mem}

abbrev pub repeat : ℕ → ℕ → List ℕ
repeat zero i = []
repeat (suc n) i = i ∷ repeat n i

-- how many steps it takes, its end included
abbrev pub steps_of : Plan → Store → ℕ
steps_of (Reads k f) s = suc (steps_of (f (value_at s k)) s)
steps_of (Writes k v p) s = suc (steps_of p (written s k v))
steps_of (Ends e) s = 1

-- one whole segment after another
abbrev pub spell : (ℕ → Plan) → Store → List ℕ → List ℕ
spell plan s [] = []
spell plan s (i ∷ is) = repeat (steps_of (plan i) s) i ++ spell plan (store_after (plan i) s) is

-- the lists have the members of the groups, each those of its own
abbrev pub AreSame : List (List ℕ) → List (List ℕ) → Type 0
AreSame [] [] = Unit {0}
AreSame (o ∷ os) (g ∷ gs) = ((j : ℕ) → mem j o ≡ mem j g) × AreSame os gs
AreSame [] (g ∷ gs) = ⊥
AreSame (o ∷ os) [] = ⊥
