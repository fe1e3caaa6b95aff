use Rattle.std.proofs.Common.{◌≡◌, Some, None, refl, sym, ap, ◌∙◌, subst}
use Rattle.std.specs.Prelude.{IsSome}
use Rattle.round_model.specs.Held.{usable}
use Rattle.round_model.specs.Tables.{Number}
use Rattle.pipeline.specs.Jobs.{job_with, next_missing, read}
use Rattle.pipeline.specs.Answers.{job_in, state_by, state_of}
use Rattle.pipeline.specs.declared.rounds.JobState.TheVariants.{Ready}
use Rattle.pipeline.proofs.Ready.{missing_now, on_err, ready_now}
use Rattle.pipeline.proofs.rounds.Rounds.job_state.Goals as goal

pub returns-in-Some-first_missing-clause-state : goal.returns-in-Some-first_missing-clause-state
returns-in-Some-first_missing-clause-state c =
    let s = c.args.self.now in
    let A = usable c.args.held.now in
    let es = c.in-Some.fresh.now in
    let k : Number = record { tier = c.in-Some-first_missing.tier; num = c.in-Some-first_missing.no } in
    let first : Some k ≡ next_missing s A es = missing_now s A es c.oldest.result.now (Some k) c.oldest.ensures.oldest c.in-Some-first_missing.ensures.first in
    ap (state_by (job_with s A es)) first ∙ sym (ap (λ o. state_of s A (read o)) c.in-Some.is)

pub returns-in_ok-job-in-None-clause-state : goal.returns-in_ok-job-in-None-clause-state
returns-in_ok-job-in-None-clause-state c =
    let s = c.args.self.now in
    let A = usable c.args.held.now in
    let es = c.in-Some.fresh.now in
    let none : None ≡ next_missing s A es = missing_now s A es c.oldest.result.now None c.oldest.ensures.oldest c.in-None.ensures.first in
    let is : c.in_ok-job-in-None.job ≡ job_with s A es = c.in_ok-job-in-None.ensures.job in
    ap Ready is ∙ ready_now s A c.args.fresh c.in-Some.fresh c.in-Some.is none

pub returns-in_err-job-in-None-clause-memory : goal.returns-in_err-job-in-None-clause-memory
returns-in_err-job-in-None-clause-memory c =
    let s = c.args.self.now in
    let A = usable c.args.held.now in
    let es = c.in-Some.fresh.now in
    let none : None ≡ next_missing s A es = missing_now s A es c.oldest.result.now None c.oldest.ensures.oldest c.in-None.ensures.first in
    on_err (IsSome (job_in (state_of s A (read c.args.fresh)))) c.from_residual.result
    (subst (λ z. IsSome (job_in z)) (ready_now s A c.args.fresh c.in-Some.fresh c.in-Some.is none) refl)
