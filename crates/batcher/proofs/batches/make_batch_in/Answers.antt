use Rattle.batcher.proofs.Joining.{batch_is}
use Rattle.batcher.proofs.batches.make_batch_in.Goals as goal

pub returns : goal.returns
returns g c m tables table agrees = batch_is (g.S.Service.table c.args.svc.now) m c.args.clients.now tables c.entries.result.now c.args.pending.now
    c.gather.result c.entries.ensures.stand c.entries.ensures.entries table agrees c.gather.ensures
