-- What a run of a job asks for, and what it leaves.
use Rattle.std.specs.Prelude.{◌≡◌, ℕ, List, length, Option, Some, None, IsSome}
use Rattle.svc_api.specs.Requests.{IsRequest}
use Rattle.exec_model.specs.declared.job.Seg.{Seg}
use Rattle.aeg_base.specs.Store.{Store}
use Rattle.kv_store.specs.Stores.{unwound, StaysWithin}
use Rattle.exec_model.specs.Machine.{run}
use Rattle.exec_model.specs.Spell.{spell}
use Rattle.exec_model.specs.Jobs.{Beginnings, Run, plan_at, run_of, run_job, serial_store, serial_ends}
use Rattle.exec_model.specs.Outcomes.{outcome}
use Rattle.exec_core.specs.declared.ran.Done.{Done}
use Rattle.exec_core.specs.declared.ran.Ran.{Ran}

-- its request is one, and has a segment at its stage
pub record BeginsWell (begins : Beginnings) (seg : Seg) : Type 0 where
  pub request : IsRequest seg.who
  pub has_stage : IsSome (begins seg.who seg.body seg.stage)

-- the run of these segments in these groups by a schedule
abbrev pub run_in_groups : Beginnings → List Seg → List (List ℕ) → Store → List ℕ → Run
run_in_groups begins segs groups s schedule = run_of (length segs) (run (plan_at begins segs) groups s schedule)

-- one segment after another in this order: each makes its steps, and none finds a lock held
abbrev pub serial_run : Beginnings → List Seg → Store → List ℕ → Run
serial_run begins segs s order = record {
  steps = spell (plan_at begins segs) s order;
  order = order;
  redo = 0;
  store = serial_store begins segs s order;
  ends = serial_ends begins segs s order;
}

-- this was made of the run from s, and it left t
pub record IsDone (s t : Store) (run : Run) (done : Done) : Type 0 where
  pub steps : done.steps ≡ run.steps
  pub order : done.order ≡ run.order
  pub redo : done.redo ≡ run.redo
  pub store : t ≡ run.store
  pub outcome_is : done.outcome ≡ outcome s t run.ends

-- the same, and undoing it gives s
pub record IsRan (s t : Store) (run : Run) (ran : Ran) : Type 0 where
  pub steps : ran.steps ≡ run.steps
  pub order : ran.order ≡ run.order
  pub redo : ran.redo ≡ run.redo
  pub store : t ≡ run.store
  pub outcome_is : ran.outcome ≡ outcome s t run.ends
  pub start : unwound ran.undo.entries t ≡ s
  pub left : StaysWithin ran.undo.top ran.undo.entries t

-- where a schedule is given, the steps are those of the run by it
abbrev pub UsesGiven : Beginnings → List Seg → Store → Option (List ℕ) → List ℕ → Type 0
UsesGiven begins segs s None steps = Unit {0}
UsesGiven begins segs s (Some schedule) steps = steps ≡ (run_job begins segs s schedule).steps
