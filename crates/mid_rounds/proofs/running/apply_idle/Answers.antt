use Rattle.applied_rounds.specs.States.{programs_of}
use Rattle.mid_rounds.proofs.NextRounds.{batch_fits}
use Rattle.mid_rounds.proofs.running.apply_idle.Goals as goal

pub can_apply-requires-clause-batch : goal.can_apply-requires-clause-batch
can_apply-requires-clause-batch g c =
    batch_fits (programs_of (g.S.Service.table c.args.svc.now) (g.S.Service.beginning c.args.svc.now)) c.args.member.faults c.args.member.me.index
    c.applied.result c.args.up.now.log.state c.args.up.now.rest c.in-Some.batch.now c.requires.range.kept c.applied.ensures.is c.in-Some.ensures
