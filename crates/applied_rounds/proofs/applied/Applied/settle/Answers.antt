use Rattle.std.proofs.Common.{length, ap, ◌∙◌}
use Rattle.applied_rounds.proofs.Settles.{ends_settled}
use Rattle.applied_rounds.proofs.applied.Applied.settle.Goals as goal

pub move_on-requires-clause-each : goal.move_on-requires-clause-each
move_on-requires-clause-each g c =
    ap length c.items.ensures
    ∙ ends_settled (g.S.Service.beginning c.args.svc.now) c.args.job.now.segs c.args.verdict.now _ _ c.in_ok-outcome.outcome c.requires.reads
    c.in_ok-outcome.ensures
