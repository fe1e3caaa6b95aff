use Rattle.std.proofs.Common.{ap, arith, false}
use Rattle.batcher.specs.Clients.{ClientTable}
use Rattle.batcher.proofs.Places.{read}
use Rattle.batcher.proofs.clients.Clients.busy.Goals as goal

pub returns : goal.returns
returns c = read false false c.self.inside.busy c.args.self.now.busy c.from.result c.args.client (ap (λ (t : ClientTable). t.busy) c.self.view_is)
    (omega arith) c.from.ensures (omega arith)
