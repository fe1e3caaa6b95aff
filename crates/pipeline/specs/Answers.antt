-- What the calls of rounds answer, part by part.
use Rattle.std.specs.Prelude.{Bool, true, false, List, Option, Some, None, if◌then◌else◌}
use Rattle.exec_model.specs.declared.job.Job.{Job}
use Rattle.round_model.specs.Held.{HeldState, usable, held_code}
use Rattle.log_values.specs.declared.entry.Entry.{Entry}
use Rattle.log_values.specs.declared.mid_value.Verdict.{Verdict}
use Rattle.log_values.specs.declared.mid_value.Verdict.TheVariants.{Commit, Serial}
use Rattle.round_model.specs.Service.{Table}
use Rattle.round_model.specs.Tables.{Number, Codes}
use Rattle.pipeline.specs.States.{RoundsState}
use Rattle.pipeline.specs.Jobs.{job_with, next_missing, tells_well, told}
use Rattle.pipeline.specs.declared.answers.Known.{Known}
use Rattle.pipeline.specs.declared.answers.Known.TheVariants as known
use Rattle.pipeline.specs.declared.rounds.JobState.{JobState}
use Rattle.pipeline.specs.declared.rounds.JobState.TheVariants as states
use Rattle.pipeline.specs.declared.rounds.Settled.{Settled}
use Rattle.pipeline.specs.declared.rounds.Settled.TheVariants as settlings

abbrev pub codes_of : Known → HeldState → Codes
codes_of known.Usable h = usable h
codes_of known.Held h = held_code h

-- a job is ready where no answer is missing
abbrev pub state_by : Job → Option Number → JobState
state_by job None = states.Ready job
state_by job (Some k) = states.NoAnswer k.tier k.num

-- of a round whose batch isn't learned, or has these fresh entries
abbrev pub state_of : RoundsState → Codes → Option (List Entry) → JobState
state_of s A None = states.NoBatch
state_of s A (Some fresh) = state_by (job_with s A fresh) (next_missing s A fresh)

-- the job, where it is ready
abbrev pub job_in : JobState → Option Job
job_in (states.Ready job) = Some job
job_in states.NoBatch = None
job_in (states.NoAnswer tier num) = None

-- the call that has no answer
abbrev pub missing_in : JobState → Option Number
missing_in (states.Ready job) = None
missing_in states.NoBatch = None
missing_in (states.NoAnswer tier num) = Some (record { tier = tier; num = num })

abbrev pub has_no_batch : JobState → Bool
has_no_batch (states.Ready job) = false
has_no_batch states.NoBatch = true
has_no_batch (states.NoAnswer tier num) = false

-- a job is ready where no answer is missing
abbrev pub settled_by : Job → Option Number → Settled
settled_by job None = settlings.Ready job
settled_by job (Some k) = settlings.NoAnswer k.tier k.num

-- of a round with this verdict
abbrev pub settled_of : Table → RoundsState → Codes → List Entry → Verdict → Settled
settled_of table s A fresh (Commit token order) =
    if tells_well table (job_with s A fresh).segs (told token) then settlings.Ready (job_with s A fresh) else settlings.Misfit
settled_of table s A fresh Serial = settled_by (job_with s A fresh) (next_missing s A fresh)

-- the job, where it is ready
abbrev pub job_settled : Settled → Option Job
job_settled (settlings.Ready job) = Some job
job_settled (settlings.NoAnswer tier num) = None
job_settled settlings.Misfit = None

-- the call that has no answer
abbrev pub missing_settled : Settled → Option Number
missing_settled (settlings.Ready job) = None
missing_settled (settlings.NoAnswer tier num) = Some (record { tier = tier; num = num })
missing_settled settlings.Misfit = None

abbrev pub is_misfit : Settled → Bool
is_misfit (settlings.Ready job) = false
is_misfit (settlings.NoAnswer tier num) = false
is_misfit settlings.Misfit = true
