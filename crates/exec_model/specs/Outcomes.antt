-- What a run changes.
use Rattle.std.specs.Prelude.{List}
use Rattle.aeg_base.specs.Store.{Store}
use Rattle.aeg_base.specs.Changes.{changes}
use Rattle.svc_api.specs.declared.action.Ending.{Ending}
use Rattle.svc_api.specs.declared.outcome.Outcome.{Outcome}

-- what a run from s leaves: the keys whose values differ, with their new values, and the ends in job order
abbrev pub outcome : Store → Store → List Ending → Outcome
outcome s t ends = record { pairs = changes s t; ends = ends }
