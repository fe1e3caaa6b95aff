use Rattle.std.proofs.Common.{subst, sym}
use Rattle.rollback.specs.Runs.{AreNumbers}
use Rattle.rollback.proofs.Bounded.{numbers_after}
use Rattle.base_calls.proofs.booking_jobs.run_asks.Goals as goal

pub returns : goal.returns
returns g c =
    subst AreNumbers (sym c.in_ok-ran.ensures.ran.store)
    (numbers_after (g.S.Service.beginning c.args.svc.now) c.in_ok-job.job.segs c.args.store.now.map c.deref.result.now
    (λ who body stage asked. g.met.S.Service.proper c.args.svc.now who body stage asked) c.in_ok-job.ensures.begins
    c.requires.numbers)
