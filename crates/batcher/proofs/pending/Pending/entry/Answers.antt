use Rattle.std.proofs.Common.{◌∙◌, arith, None}
use Rattle.batcher.proofs.Places.{read}
use Rattle.batcher.proofs.pending.Pending.entry.Goals as goal

pub returns : goal.returns
returns c = c.as_ref.ensures.value ∙ read None c.index-self-from.result c.self.inside.entries c.args.self.now c.from.result c.args.client
    c.self.view_is c.self.invariant.places c.from.ensures (omega arith)
