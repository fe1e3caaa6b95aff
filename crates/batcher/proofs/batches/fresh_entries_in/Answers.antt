use Rattle.batcher.proofs.Picking.{each_fresh}
use Rattle.batcher.proofs.batches.fresh_entries_in.Goals as goal

pub returns : goal.returns
returns g c m tables table agrees = each_fresh (g.S.Service.table c.args.svc.now) m c.args.clients.now tables c.args.batch.now c.pick.result
    c.requires table agrees c.pick.ensures
