use Rattle.std.proofs.Common.{sym}
use Rattle.pipeline.proofs.Fitting.{uneven}
use Rattle.pipeline.proofs.fit.all_go_on.Goals as goal

pub returns-then-ends-segs : goal.returns-then-ends-segs
returns-then-ends-segs g c = record { go = sym (uneven (g.S.Service.table c.args.svc.now) c.args.segs.now c.args.ends.now c.if-ends-segs.true) }
