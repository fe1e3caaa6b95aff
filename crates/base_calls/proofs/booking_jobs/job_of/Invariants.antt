use Rattle.std.proofs.Common.{◌≡◌, length}
use Rattle.std.specs.List.{All}
use Rattle.exec_core.specs.Jobs.{BeginsWell}
use Rattle.base_calls.proofs.booking_jobs.job_of.Given as goal

abbrev pub invariant-asks : goal.invariant-asks
invariant-asks g l = record {
  begins : All (BeginsWell (g.S.Service.beginning l.svc)) l.segs.items;
  count : length l.segs.items ≡ l.ask-index;
}
