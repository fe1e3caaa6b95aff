use Rattle.std.proofs.Common.{sym, ap, subst, ◌∙◌}
use Rattle.std.specs.Prelude.{IfSome}
use Rattle.applied_rounds.specs.States.{programs_of}
use Rattle.mid_rounds.specs.Settlings.{cause_next, job_next}
use Rattle.mid_rounds.specs.Running.{IsNextRun}
use Rattle.mid_rounds.proofs.WorkMoves.{by_given, idles_on, learned_is}
use Rattle.mid_rounds.proofs.running.work.Goals as goal

pub returns-in-Idle-clause-told : goal.returns-in-Idle-clause-told
returns-in-Idle-clause-told g c =
    idles_on (programs_of (g.S.Service.table c.args.svc.now) (g.S.Service.beginning c.args.svc.now)) c.args.member c.args.up.now _ c.in-Idle.cause
    c.args.out.now c.idle.result
    (learned_is c.args.up.now.log.state.learned c.verdict_at.result c.is_some.result c.applied.result c.args.up.now.rest.rounds.applied
    c.is_some.ensures c.verdict_at.ensures c.applied.ensures.is ∙ c.if-is_some.false)
    (sym (ap cause_next c.in-Idle.is) ∙ c.in_ok-cause.ensures.cause _) c.idle.ensures.facts c.idle.ensures.answer c.requires.range

pub returns-in-Idle-clause-given : goal.returns-in-Idle-clause-given
returns-in-Idle-clause-given g c schedule e =
    idles_on (programs_of (g.S.Service.table c.args.svc.now) (g.S.Service.beginning c.args.svc.now)) c.args.member c.args.up.now schedule c.in-Idle.cause
    c.args.out.now c.idle.result
    (learned_is c.args.up.now.log.state.learned c.verdict_at.result c.is_some.result c.applied.result c.args.up.now.rest.rounds.applied
    c.is_some.ensures c.verdict_at.ensures c.applied.ensures.is ∙ c.if-is_some.false)
    (sym (ap cause_next c.in-Idle.is) ∙ c.in_ok-cause.ensures.cause schedule) c.idle.ensures.facts c.idle.ensures.answer c.requires.range

pub returns-in-Run-clause-given : goal.returns-in-Run-clause-given
returns-in-Run-clause-given g c schedule e =
    by_given (programs_of (g.S.Service.table c.args.svc.now) (g.S.Service.beginning c.args.svc.now)) c.args.member c.args.up.now c.in-Run.job
    c.run_next.new.up c.args.out.now c.run_next.new.out c.run_next.result schedule (g.X.Exec.given c.args.exec.now)
    (learned_is c.args.up.now.log.state.learned c.verdict_at.result c.is_some.result c.applied.result c.args.up.now.rest.rounds.applied
    c.is_some.ensures c.verdict_at.ensures c.applied.ensures.is ∙ c.if-is_some.false)
    (subst (λ next. IfSome (job_next next) (IsNextRun (programs_of (g.S.Service.table c.args.svc.now) (g.S.Service.beginning c.args.svc.now))
    c.args.member c.args.up.now)) c.in-Run.is c.in_ok-cause.ensures.job) e c.run_next.ensures.told c.run_next.ensures.given
