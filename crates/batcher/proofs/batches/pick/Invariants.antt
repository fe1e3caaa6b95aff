use Rattle.std.proofs.Common.{◌≡◌, ◌++◌, drop, false}
use Rattle.std.specs.Prelude.{replicate}
use Rattle.batcher.specs.Tabled.{is_fresh_by, picked}
use Rattle.batcher.proofs.batches.pick.Given as goal

abbrev pub invariant-loop-e : goal.invariant-loop-e
invariant-loop-e g l = l.fresh.items ++ picked (is_fresh_by (g.S.Service.table l.svc) l.clients) l.seen (drop l.e-index l.batch)
    ≡ picked (is_fresh_by (g.S.Service.table l.svc) l.clients) (replicate 17 false) l.batch
