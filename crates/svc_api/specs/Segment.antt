-- Segments of requests: how they begin, and what they mean over a whole store.
use Rattle.std.specs.Prelude.{◌≡◌, ℕ, ◌≤◌, List, Bool, Option, Some, None, IsSome}
use Rattle.aeg_base.specs.Store.{Store}
use Rattle.aeg_base.specs.declared.names.Key.{Key}
use Rattle.svc_api.specs.Plan.{Plan, store_after, ending_of, keys_of, IsBounded}
use Rattle.svc_api.specs.declared.action.Ending.{Ending}
use Rattle.svc_api.specs.declared.action.Ending.TheVariants as ends

-- the store after a segment, its end, and the keys that it touched, in order
pub record Segment : Type 0 where
  pub store : Store
  pub ending : Ending
  pub keys : List Key

-- what a plan comes to
abbrev pub segment_of : Plan → Store → Segment
segment_of p s = record { store = store_after p s; ending = ending_of p s; keys = keys_of p s }

-- what a program is to do, for each answer of its call, and the locks that it declares
pub record Beginning : Type 0 where
  pub plan : Option ℕ → Plan
  pub locks : List Bool

-- A program begins exactly where the request has such a segment, and does what it is to.
abbrev pub Begins : {P : Type 0} → (P → Option ℕ → Plan) → (P → ℕ) → (P → List Bool) → Option Beginning → Option P → Type 0
Begins plan budget locks None None = Unit {0}
Begins plan budget locks None (Some prog) = ⊥
Begins plan budget locks (Some beginning) None = ⊥
Begins plan budget locks (Some beginning) (Some prog) =
    ((answer : Option ℕ) → plan prog answer ≡ beginning.plan answer) × ((locks prog ≡ beginning.locks) × (budget prog ≤ 32))

-- the plan comes to the row of the table, and both are there or neither
abbrev pub Folds : Option Beginning → Option (Option ℕ → Store → Segment) → Type 0
Folds None None = Unit {0}
Folds None (Some row) = ⊥
Folds (Some beginning) None = ⊥
Folds (Some beginning) (Some row) = (answer : Option ℕ) (s : Store) → segment_of (beginning.plan answer) s ≡ row answer s

-- at most 32 actions and 8 writes
abbrev pub IsProper : Option Beginning → Type 0
IsProper None = Unit {0}
IsProper (Some beginning) = (answer : Option ℕ) → IsBounded 32 8 (beginning.plan answer)

abbrev pub HasStage : (ℕ → Option (Option ℕ → Store → Segment)) → Ending → Type 0
HasStage stages (ends.Reply text) = Unit {0}
HasStage stages (ends.Call tier stage body) = IsSome (stages stage)

-- where the segment calls, the request has a segment at the stage that the call names
abbrev pub GoesOn : Option (Option ℕ → Store → Segment) → (ℕ → Option (Option ℕ → Store → Segment)) → Type 0
GoesOn None stages = Unit {0}
GoesOn (Some row) stages = (answer : Option ℕ) (s : Store) → HasStage stages (row answer s).ending
