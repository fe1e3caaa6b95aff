-- A job, and what a run of it comes to: by a schedule, and one segment after another.
pub use Rattle.svc_api.specs.Orders.{below}
use Rattle.std.specs.Prelude.{ℕ, zero, suc, Bool, List, [], ◌∷◌, length, map, Option, Some, None, unwrap_or}
use Rattle.aeg_base.specs.Store.{Store}
use Rattle.aeg_base.specs.Locks.{no_locks}
use Rattle.aeg_base.specs.declared.names.ReqId.{ReqId}
use Rattle.svc_api.specs.Plan.{Plan, Ends}
use Rattle.svc_api.specs.Requests.{IsRequest}
use Rattle.svc_api.specs.Segment.{Beginning, IsProper}
use Rattle.svc_api.specs.declared.action.Ending.{Ending}
use Rattle.svc_api.specs.declared.action.Ending.TheVariants.{Reply}
use Rattle.exec_model.specs.declared.job.Seg.{Seg}
use Rattle.exec_model.specs.Serial.{serial, serial_end}
use Rattle.exec_model.specs.Machine.{State, run, end_of}
use Rattle.exec_model.specs.Groups.{mix}

-- how the segments of requests begin
abbrev pub Beginnings : Type 0
Beginnings = ReqId → List ℕ → ℕ → Option Beginning

-- segments of requests keep within their limits
abbrev pub AreProper : Beginnings → Type 0
AreProper begins = (who : ReqId) (body : List ℕ) (stage : ℕ) → IsRequest who → IsProper (begins who body stage)

abbrev pub said_nothing : Ending
said_nothing = Reply []

abbrev pub plan_in : Option Beginning → Option ℕ → Plan
plan_in None answer = Ends said_nothing
plan_in (Some beginning) answer = beginning.plan answer

abbrev pub locks_in : Option Beginning → List Bool
locks_in None = no_locks
locks_in (Some beginning) = beginning.locks

-- what each segment does, by its number
abbrev pub plan_at : Beginnings → List Seg → ℕ → Plan
plan_at begins [] i = Ends said_nothing
plan_at begins (x ∷ xs) zero = plan_in (begins x.who x.body x.stage) x.answer
plan_at begins (x ∷ xs) (suc i) = plan_at begins xs i

-- the locks that each segment declares
abbrev pub locks_at : Beginnings → List Seg → ℕ → List Bool
locks_at begins [] i = no_locks
locks_at begins (x ∷ xs) zero = locks_in (begins x.who x.body x.stage)
locks_at begins (x ∷ xs) (suc i) = locks_at begins xs i

abbrev pub groups_of : Beginnings → List Seg → List (List ℕ)
groups_of begins segs = mix (locks_at begins segs) (length segs)

-- a run: the steps made, the order of finishing, how many groups were run again, the store, and the ends in job order
pub record Run : Type 0 where
  pub steps : List ℕ
  pub order : List ℕ
  pub redo : ℕ
  pub store : Store
  pub ends : List Ending

abbrev pub run_of : ℕ → State → Run
run_of n t = record {
  steps = t.steps;
  order = t.past;
  redo = t.redo;
  store = t.store;
  ends = map (λ i. unwrap_or (end_of (t.progress i)) said_nothing) (below n);
}

-- the run of a job by a schedule
unfoldable pub run_job : Beginnings → List Seg → Store → List ℕ → Run
run_job begins segs s schedule =
    run_of (length segs) (run (plan_at begins segs) (mix (locks_at begins segs) (length segs)) s schedule)

-- the store after the segments, one after another, in this order
unfoldable pub serial_store : Beginnings → List Seg → Store → List ℕ → Store
serial_store begins segs s order = serial (plan_at begins segs) s order

-- and their ends in job order
unfoldable pub serial_ends : Beginnings → List Seg → Store → List ℕ → List Ending
serial_ends begins segs s order = map (λ i. unwrap_or (serial_end (plan_at begins segs) s order i) said_nothing) (below (length segs))
