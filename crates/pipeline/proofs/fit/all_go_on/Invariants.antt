use Rattle.std.proofs.Common.{◌≡◌, drop}
use Rattle.pipeline.specs.Jobs.{all_go_on}
use Rattle.pipeline.proofs.fit.all_go_on.Given as goal

abbrev pub invariant-segments : goal.invariant-segments
invariant-segments g l = all_go_on (g.S.Service.table l.svc) (drop l.i l.segs) (drop l.i l.ends) ≡ all_go_on (g.S.Service.table l.svc) l.segs l.ends
