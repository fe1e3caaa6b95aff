use Rattle.std.proofs.Common.{◌≡◌, ◌≤◌, length, ap, ◌∙◌}
use Rattle.std.specs.List.{All}
use Rattle.std.proofs.lemmas.Result.{IfOk-weaker}
use Rattle.exec_model.specs.declared.job.Job.{Job}
use Rattle.round_model.specs.Held.{held_code}
use Rattle.round_model.specs.Lists.{is_some}
use Rattle.round_model.specs.Settling.{finish_of}
use Rattle.pipeline.specs.States.{next_wants}
use Rattle.pipeline.specs.Jobs.{IsAsked, IsNextJob, misfits, next_job}
use Rattle.pipeline.specs.Answers.{is_misfit, job_settled, settled_of}
use Rattle.pipeline.proofs.Ready.{asked_next, few_next, is_next}
use Rattle.pipeline.proofs.Verdicts.{each_settled, misfit_is, ready_is, serial_job}
use Rattle.pipeline.proofs.rounds.Rounds.settled_job.Goals as goal

pub returns-clause-serial : goal.returns-clause-serial
returns-clause-serial g c = λ h.
    let table = g.S.Service.table c.args.svc.now in
    let s = c.args.self.now in
    let A = held_code c.args.held.now in
    let es = c.args.fresh.now in
    let v = c.args.verdict.now in
    IfOk-weaker c.settle.result (λ x. x ≡ settled_of table s A es v) (λ x. job_settled x ≡ next_job s A es)
    (λ x e. ap job_settled e ∙ serial_job table s A es v h) c.settle.ensures.settled

pub returns-clause-misfit : goal.returns-clause-misfit
returns-clause-misfit g c = λ m t r.
    let table = g.S.Service.table c.args.svc.now in
    let s = c.args.self.now in
    let A = held_code c.args.held.now in
    let es = c.args.fresh.now in
    let v = c.args.verdict.now in
    IfOk-weaker c.settle.result (λ x. x ≡ settled_of table s A es v) (λ x. is_misfit x ≡ misfits m (next_wants s es) v)
    (λ x e. ap is_misfit e ∙ misfit_is table m s A es v t r) c.settle.ensures.settled

pub returns-clause-ready : goal.returns-clause-ready
returns-clause-ready g c = λ m T t r.
    let table = g.S.Service.table c.args.svc.now in
    let s = c.args.self.now in
    let A = held_code c.args.held.now in
    let es = c.args.fresh.now in
    let v = c.args.verdict.now in
    IfOk-weaker c.settle.result (λ x. x ≡ settled_of table s A es v) (λ x. is_some (job_settled x) ≡ is_some (finish_of m A (next_wants s es) T v))
    (λ x e. ap (λ z. is_some (job_settled z)) e ∙ ready_is table m s A es T v t r) c.settle.ensures.settled

pub returns-clause-next : goal.returns-clause-next
returns-clause-next g c =
    let table = g.S.Service.table c.args.svc.now in
    let s = c.args.self.now in
    let A = held_code c.args.held.now in
    let es = c.args.fresh.now in
    each_settled (IsNextJob s es) table s A es c.args.verdict.now c.settle.result (λ k. is_next s A es c.requires.fresh)
    c.settle.ensures.settled c.settle.ensures.range

pub returns-clause-few : goal.returns-clause-few
returns-clause-few g c =
    let table = g.S.Service.table c.args.svc.now in
    let s = c.args.self.now in
    let A = held_code c.args.held.now in
    let es = c.args.fresh.now in
    each_settled (λ (job : Job). length job.segs ≤ 16) table s A es c.args.verdict.now c.settle.result (few_next s A es c.requires.fresh)
    c.settle.ensures.settled c.settle.ensures.range

pub returns-clause-requests : goal.returns-clause-requests
returns-clause-requests g c =
    let table = g.S.Service.table c.args.svc.now in
    let s = c.args.self.now in
    let A = held_code c.args.held.now in
    let es = c.args.fresh.now in
    each_settled (λ (job : Job). All IsAsked job.segs) table s A es c.args.verdict.now c.settle.result (asked_next s A es c.requires.fresh)
    c.settle.ensures.settled c.settle.ensures.range
