use Rattle.std.proofs.Common.{◌≡◌, ◌≤◌, length, sym, ap, ◌∙◌, subst}
use Rattle.std.specs.Prelude.{IfSome, IsSome, OnErr}
use Rattle.std.specs.List.{All}
use Rattle.std.proofs.lemmas.Result.{IfOk-weaker}
use Rattle.exec_model.specs.declared.job.Job.{Job}
use Rattle.round_model.specs.Held.{usable}
use Rattle.round_model.specs.Lists.{and_then}
use Rattle.pipeline.specs.Jobs.{AreFresh, IsAsked, IsNextJob, job_with, next_job, read}
use Rattle.pipeline.specs.Answers.{job_in, state_of}
use Rattle.pipeline.proofs.Ready.{asked_next, each_ready, few_next, is_next, state_job}
use Rattle.pipeline.proofs.rounds.Rounds.next_job.Goals as goal

pub returns-clause-job : goal.returns-clause-job
returns-clause-job c =
    let s = c.args.self.now in
    let A = usable c.args.held.now in
    let fresh = read c.args.fresh in
    IfOk-weaker c.job_state.result (λ x. x ≡ state_of s A fresh) (λ x. job_in x ≡ and_then fresh (next_job s A)) (λ x e. ap job_in e ∙ state_job s A fresh)
    c.job_state.ensures.state

pub returns-clause-next : goal.returns-clause-next
returns-clause-next c =
    let s = c.args.self.now in
    let A = usable c.args.held.now in
    each_ready (λ job. IfSome c.args.fresh (λ es. IsNextJob s es.now job)) s A c.args.fresh c.job_state.result
    (λ es is k. subst (λ o. IfSome o (λ fs. IsNextJob s fs.now (job_with s A es.now))) (sym is)
    (is_next s A es.now (subst (λ o. IfSome o (λ fs. AreFresh s fs.now)) is c.requires.fresh)))
    c.job_state.ensures.state c.job_state.ensures.range

pub returns-clause-few : goal.returns-clause-few
returns-clause-few c =
    let s = c.args.self.now in
    let A = usable c.args.held.now in
    each_ready (λ (job : Job). length job.segs ≤ 16) s A c.args.fresh c.job_state.result
    (λ es is k. few_next s A es.now (subst (λ o. IfSome o (λ fs. AreFresh s fs.now)) is c.requires.fresh) k)
    c.job_state.ensures.state c.job_state.ensures.range

pub returns-clause-requests : goal.returns-clause-requests
returns-clause-requests c =
    let s = c.args.self.now in
    let A = usable c.args.held.now in
    each_ready (λ (job : Job). All IsAsked job.segs) s A c.args.fresh c.job_state.result
    (λ es is k. asked_next s A es.now (subst (λ o. IfSome o (λ fs. AreFresh s fs.now)) is c.requires.fresh) k)
    c.job_state.ensures.state c.job_state.ensures.range

pub returns-clause-memory : goal.returns-clause-memory
returns-clause-memory c =
    let s = c.args.self.now in
    let A = usable c.args.held.now in
    subst (λ o. OnErr c.job_state.result (IsSome o)) (state_job s A (read c.args.fresh)) c.job_state.ensures.memory
