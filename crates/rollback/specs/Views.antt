-- What a speculative state holds.
use Rattle.std.specs.Prelude.{ℕ, List}
use Rattle.exec_model.specs.declared.job.Job.{Job}
use Rattle.exec_core.specs.declared.ran.Ran.{Ran}
use Rattle.rollback.specs.declared.spec.Spec.{Spec}

-- the job
abbrev pub job_of : Spec → Job
job_of spec = spec.job

-- its run
abbrev pub ran_of : Spec → Ran
ran_of spec = spec.ran

-- the token of its outcome
abbrev pub token_of : Spec → List ℕ
token_of spec = spec.token
