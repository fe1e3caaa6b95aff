-- What a run of a job answered.
use Rattle.std.specs.Prelude.{ℕ, ◌<◌, ◌≤◌, ◌^◌, List, length}
use Rattle.std.specs.List.{All}
use Rattle.aeg_base.specs.declared.names.Key.{Key}
use Rattle.aeg_base.specs.Store.{Store, value_at}
use Rattle.exec_model.specs.declared.job.Job.{Job}
use Rattle.exec_model.specs.Jobs.{Beginnings, AreProper, run_job}
use Rattle.exec_core.specs.declared.ran.Ran.{Ran}
use Rattle.exec_core.specs.Jobs.{BeginsWell, IsRan}

-- each value is a number that a store can hold
abbrev pub AreNumbers : Store → Type 0
AreNumbers s = (k : Key) → value_at s k < 2 ^ 64

-- some service ran the job from some store, and this is what was answered
pub record WasRun (job : Job) (ran : Ran) : Type 0 where
  pub begins : Beginnings
  pub proper : AreProper begins
  pub each : All (BeginsWell begins) job.segs
  pub few : length job.segs ≤ 32
  pub start : Store
  pub numbers : AreNumbers start
  pub finish : Store
  pub schedule : List ℕ
  pub made : IsRan start finish (run_job begins job.segs start schedule) ran
