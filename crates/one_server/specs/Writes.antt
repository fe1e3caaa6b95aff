-- The writes of a segment, and what its run leaves.
use Rattle.std.specs.Prelude.{◌≡◌, ℕ, List, [], ◌∷◌, Option, None, Some}
use Rattle.aeg_base.specs.Store.{Store, written}
use Rattle.svc_api.specs.Segment.{Segment}
use Rattle.one_server.specs.declared.stage.Ran.{Ran}
use Rattle.one_server.specs.declared.write.Write.{Write}

-- the store after these writes, in order
abbrev pub after : Store → List Write → Store
after s [] = s
after s (write ∷ writes) = after (written s write.key write.value) writes

-- a segment ran exactly where the table has one, to its end and its store
abbrev pub Runs : Option (Option ℕ → Store → Segment) → Option ℕ → Store → Option Ran → Type 0
Runs None answer s None = Unit {0}
Runs None answer s (Some ran) = ⊥
Runs (Some segment) answer s None = ⊥
Runs (Some segment) answer s (Some ran) = ((segment answer s).ending ≡ ran.ending) × ((segment answer s).store ≡ after s ran.writes.items)
