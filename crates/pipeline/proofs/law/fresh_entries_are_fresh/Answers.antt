use Rattle.pipeline.proofs.Entered.{fresh_ones}
use Rattle.pipeline.proofs.law.fresh_entries_are_fresh.Goals as goal

pub returns : goal.returns
returns c = record { fresh = λ m T s r batch k. fresh_ones m T s batch k.queue }
