-- An executor with a schedule, as its callers see it.
use Rattle.std.specs.Prelude.{ℕ, List, Option}
use Rattle.exec_core.specs.declared.given.GivenExec.{GivenExec}
use Rattle.exec_core.specs.declared.noted.Noted.{Noted}

-- the schedule that it runs each job by
abbrev pub schedule_of : GivenExec → List ℕ
schedule_of x = x.schedule.items

-- how many runs it made
abbrev pub count_of : GivenExec → ℕ
count_of x = x.runs.count

-- the last of them
abbrev pub last_of : GivenExec → Option Noted
last_of x = x.runs.last
