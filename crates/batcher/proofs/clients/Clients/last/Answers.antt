use Rattle.std.proofs.Common.{ap, arith}
use Rattle.batcher.specs.Clients.{ClientTable}
use Rattle.batcher.proofs.Places.{read}
use Rattle.batcher.proofs.clients.Clients.last.Goals as goal

pub returns : goal.returns
returns c = read 0 0 c.self.inside.last c.args.self.now.last c.from.result c.args.client (ap (λ (t : ClientTable). t.last) c.self.view_is)
    (omega arith) c.from.ensures (omega arith)
