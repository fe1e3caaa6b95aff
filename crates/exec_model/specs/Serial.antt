-- One segment after another.
use Rattle.std.specs.Prelude.{ℕ, ◌==◌, if◌then◌else◌, List, [], ◌∷◌, Option, Some, None}
use Rattle.aeg_base.specs.Store.{Store}
use Rattle.svc_api.specs.Plan.{Plan, store_after, ending_of}
use Rattle.svc_api.specs.declared.action.Ending.{Ending}

-- the store after these segments, one after another, in this order
abbrev pub serial : (ℕ → Plan) → Store → List ℕ → Store
serial plan s [] = s
serial plan s (i ∷ is) = serial plan (store_after (plan i) s) is

-- the end of segment j, in this order
abbrev pub serial_end : (ℕ → Plan) → Store → List ℕ → ℕ → Option Ending
serial_end plan s [] j = None
serial_end plan s (i ∷ is) j =
    if i == j then Some (ending_of (plan i) s) else serial_end plan (store_after (plan i) s) is j
