use Rattle.std.proofs.Common.{◌≡◌, Some, None, sym, ap, ◌∙◌}
use Rattle.round_model.specs.Held.{held_code}
use Rattle.round_model.specs.Tables.{Number}
use Rattle.pipeline.specs.States.{next_wants}
use Rattle.pipeline.specs.Jobs.{job_with, lacks, next_missing}
use Rattle.pipeline.specs.Answers.{settled_by, settled_of}
use Rattle.pipeline.specs.declared.rounds.Settled.TheVariants.{Ready}
use Rattle.pipeline.proofs.Ready.{asked_now, missing_now, on_err}
use Rattle.pipeline.proofs.rounds.Rounds.settle.Goals as goal

pub fits-requires : goal.fits-requires
fits-requires g c = record {
  asked =
      asked_now _ c.args.self.now (held_code c.args.held.now) c.args.fresh.now c.in_ok-job-in-Commit.job c.items.result.now c.self.view_is
      c.self.invariant c.requires.fresh c.in_ok-job-in-Commit.ensures.job c.items.ensures;
}

pub returns-in-Some-clause-settled : goal.returns-in-Some-clause-settled
returns-in-Some-clause-settled g c =
    let s = c.args.self.now in
    let A = held_code c.args.held.now in
    let es = c.args.fresh.now in
    let k : Number = record { tier = c.in-Some.tier; num = c.in-Some.no } in
    let first : Some k ≡ next_missing s A es = missing_now s A es c.oldest.result.now (Some k) c.oldest.ensures.oldest c.in-Some.ensures.first in
    ap (settled_by (job_with s A es)) first ∙ sym (ap (settled_of (g.S.Service.table c.args.svc.now) s A es) c.in-Serial.is)

pub returns-in_ok-job-in-None-clause-settled : goal.returns-in_ok-job-in-None-clause-settled
returns-in_ok-job-in-None-clause-settled g c =
    let s = c.args.self.now in
    let A = held_code c.args.held.now in
    let es = c.args.fresh.now in
    let none : None ≡ next_missing s A es = missing_now s A es c.oldest.result.now None c.oldest.ensures.oldest c.in-None.ensures.first in
    let is : c.in_ok-job-in-None.job ≡ job_with s A es = c.in_ok-job-in-None.ensures.job in
    let ready : Ready c.in_ok-job-in-None.job ≡ settled_by (job_with s A es) None = ap Ready is in
    ready ∙ ap (settled_by (job_with s A es)) none ∙ sym (ap (settled_of (g.S.Service.table c.args.svc.now) s A es) c.in-Serial.is)

pub returns-in_err-job-in-None-clause-memory : goal.returns-in_err-job-in-None-clause-memory
returns-in_err-job-in-None-clause-memory g c =
    let s = c.args.self.now in
    let A = held_code c.args.held.now in
    let es = c.args.fresh.now in
    let none : None ≡ next_missing s A es = missing_now s A es c.oldest.result.now None c.oldest.ensures.oldest c.in-None.ensures.first in
    on_err (lacks A (next_wants s es) c.args.verdict.now ≡ None) c.from_residual-in_err-job-in-None.result
    (ap (lacks A (next_wants s es)) c.in-Serial.is ∙ sym none)
