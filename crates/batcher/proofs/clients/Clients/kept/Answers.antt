use Rattle.std.proofs.Common.{ap, ◌∙◌, arith, None}
use Rattle.batcher.specs.Clients.{ClientTable}
use Rattle.batcher.proofs.Places.{read}
use Rattle.batcher.proofs.clients.Clients.kept.Goals as goal

pub returns : goal.returns
returns c = c.as_ref.ensures.value ∙ read None c.index-self-from.result c.self.inside.kept c.args.self.now.kept c.from.result c.args.client
    (ap (λ (t : ClientTable). t.kept) c.self.view_is) c.self.invariant.1 c.from.ensures (omega arith)
