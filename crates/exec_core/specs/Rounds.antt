-- A group whose segments take turns.
use Rattle.std.specs.Prelude.{◌≡◌, ℕ, ◌<◌, ◌≤◌, Bool, true, false, List, length, Option}
use Rattle.std.specs.List.{All}
use Rattle.svc_api.specs.Plan.{Plan}
use Rattle.exec_model.specs.declared.job.Seg.{Seg}
use Rattle.exec_model.specs.Machine.{any_running}
use Rattle.svc_api.specs.Orders.{mem}
use Rattle.exec_model.specs.Groups.{times}
use Rattle.exec_model.specs.Jobs.{Beginnings}
use Rattle.exec_core.specs.declared.machine.Machine.{Machine}
use Rattle.exec_core.specs.States.{progress_of}
use Rattle.exec_core.specs.Jobs.{BeginsWell}

-- the members are segments of the job, each once, and each has a slot; the group can be undone once more
pub record CanRun {P : Type 0} (begins : Beginnings) (segs : List Seg) (group : List ℕ) (m : Machine P) : Type 0 where
  pub begin_well : All (BeginsWell begins) segs
  pub here : All (λ j. j < length segs) group
  pub members : All (λ j. j < length m.slots.items) group
  pub once : (j : ℕ) → times j group ≤ 1
  pub redo : m.redo < 255

-- a segment that is no member is where it was
abbrev pub LeavesOthers : {P : Type 0} → (P → Option ℕ → Plan) → List ℕ → Machine P → Machine P → Type 0
LeavesOthers plan group m m' = (j : ℕ) → mem j group ≡ false → progress_of plan m'.slots.items j ≡ progress_of plan m.slots.items j

-- unless the group is over, some member runs if some ran
abbrev pub RunsOn : {P : Type 0} → (P → Option ℕ → Plan) → List ℕ → Machine P → Machine P → Bool → Type 0
RunsOn plan group m m' over = over ≡ false → any_running (progress_of plan m.slots.items) group ≡ true
    → any_running (progress_of plan m'.slots.items) group ≡ true
