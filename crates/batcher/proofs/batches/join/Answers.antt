use Rattle.std.proofs.Common.{arith}
use Rattle.batcher.specs.Tabled.{is_fresh_by, if_passes}
use Rattle.batcher.proofs.Joining.{take_full}
use Rattle.batcher.proofs.batches.join.Goals as goal

pub returns-then-len-eq-BATCH_ENTRIES : goal.returns-then-len-eq-BATCH_ENTRIES
returns-then-len-eq-BATCH_ENTRIES g c = take_full 8 c.args.batch.now.items
    (if_passes (is_fresh_by (g.S.Service.table c.args.svc.now) c.args.clients.now) c.args.entry.now) (omega arith)
