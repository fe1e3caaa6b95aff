-- A job in the middle of its run.
use Rattle.std.specs.Prelude.{◌≡◌, ◌&&◌, ℕ, ◌≤◌, List, [], ◌∷◌, length, drop, Option, if◌then◌else◌, nat_lt, map, unwrap_or, Bool, false, refl}
use Rattle.std.specs.Coded.{Coded, code_by, coded×, coded_list, coded_bool, coded_ℕ}
use Rattle.std.specs.List.{All}
use Rattle.svc_api.specs.Plan.{Plan}
use Rattle.svc_api.specs.Orders.{mem}
use Rattle.aeg_base.specs.Store.{Store}
use Rattle.exec_model.specs.declared.job.Seg.{Seg}
use Rattle.exec_model.specs.Machine.{State, Running, Ended, end_of, is_running, start, turns}
use Rattle.exec_model.specs.Jobs.{Beginnings, Run, plan_at, groups_of, said_nothing, below}
use Rattle.key_mixer.specs.Lists.{lists_of}
use Rattle.exec_core.specs.declared.machine.Machine.{Machine}
use Rattle.exec_core.specs.declared.work.Work.{Work}
use Rattle.exec_core.specs.States.{owner_of, progress_of}
use Rattle.exec_core.specs.Jobs.{BeginsWell}

-- the machine as it begins on a job; numbers that no segment has are those of segments that have ended
abbrev pub begun_on : Beginnings → List Seg → Store → State
begun_on begins segs s = record (start (plan_at begins segs) (groups_of begins segs) s) {
  progress = λ i. if nat_lt i (length segs) then Running (plan_at begins segs i) else Ended said_nothing;
}

-- what is at work, as a state of the machine
abbrev pub state_at : {P : Type 0} → (P → Option ℕ → Plan) → Work P → State
state_at plan w = record {
  store = w.cells.now;
  owner = owner_of w.m.owner.items;
  progress = progress_of plan w.m.slots.items;
  base = w.cells.base;
  past = w.order.items;
  group = elim (drop w.at (lists_of w.groups.items)) [ [] ↦ [] | g ∷ gs ↦ g ];
  done = w.m.done.items;
  later = elim (drop w.at (lists_of w.groups.items)) [ [] ↦ [] | g ∷ gs ↦ gs ];
  redo = w.m.redo;
  steps = w.m.steps.items;
}

-- segment i is one of the group at work, and runs
abbrev pub can_step : State → ℕ → Bool
can_step t i = mem i t.group && is_running (t.progress i)

-- the state that the machine begun on this job and store is in after these steps
abbrev pub state_after : Beginnings → List Seg → Store → List ℕ → State
state_after begins segs s steps = turns (plan_at begins segs) (begun_on begins segs s) steps

-- what a machine leaves once its segments have ended
abbrev pub left_by : {P : Type 0} → (P → Option ℕ → Plan) → Machine P → List ℕ → Store → Run
left_by plan m order s = record {
  steps = m.steps.items;
  order = order;
  redo = m.redo;
  store = s;
  ends = map (λ i. unwrap_or (end_of (progress_of plan m.slots.items i)) said_nothing) (below (length m.slots.items));
}

-- the machine that was begun on this job and store is in this state after just these steps
pub record IsReached {P : Type 0} (plan : P → Option ℕ → Plan) (begins : Beginnings) (segs : List Seg) (s : Store) (w : Work P) : Type 0 where
  pub groups : lists_of w.groups.items ≡ groups_of begins segs
  pub slots : length w.m.slots.items ≡ length segs
  pub locks : length w.m.owner.items ≡ 256
  pub redo : w.m.redo ≤ w.at
  pub state : state_after begins segs s w.m.steps.items ≡ state_at plan w

-- what callers see of a run: the steps that were made, the groups from the one at work on, and whether memory was wanting
pub record RunView : Type 0 where
  pub steps : List ℕ
  pub left : List (List ℕ)
  pub short : Bool

abbrev pub run_code : Coded RunView
run_code = code_by (List ℕ × (List (List ℕ) × Bool))
    (coded× (coded_list coded_ℕ) (coded× (coded_list (coded_list coded_ℕ)) coded_bool))
    (λ r. (r.steps, (r.left, r.short))) (λ p. record { steps = p.0; left = (p.1).0; short = (p.1).1 }) (λ _. refl)

abbrev pub first_of : List (List ℕ) → List ℕ
first_of [] = []
first_of (g ∷ gs) = g

-- what is made of this job is in reach unless memory was wanting, and it is the task's: its service, its job and its start
pub record IsUnderway {P : Type 0} (plan : P → Option ℕ → Plan) (begins : Beginnings) (segs : List Seg) (w : Work P)
    (short : Bool) (begins' : Beginnings) (segs' : List Seg) (start' : Store) : Type 0 where
  pub begin_well : All (BeginsWell begins) segs
  pub few : length segs ≤ 32
  pub reached : short ≡ false → IsReached plan begins segs w.cells.start w
  pub service : begins ≡ begins'
  pub job : segs ≡ segs'
  pub start_is : w.cells.start ≡ start'
