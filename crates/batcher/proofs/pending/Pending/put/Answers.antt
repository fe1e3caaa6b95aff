use Rattle.std.proofs.Common.{arith, Some, None}
use Rattle.batcher.specs.Waiting.{entry_of}
use Rattle.batcher.proofs.Places.{write}
use Rattle.batcher.proofs.Waits.{put_stands}
use Rattle.batcher.proofs.pending.Pending.put.Goals as goal

pub invariant_of-self : goal.invariant_of-self
invariant_of-self c = put_stands c.self.inside.entries c.from-place.result (entry_of c.args.who c.args.body) c.self.invariant c.requires c.from-place.ensures

pub returns : goal.returns
returns c = write None c.self.inside.entries c.args.self.now c.from-place.result c.args.who.client (Some (entry_of c.args.who c.args.body))
    c.self.view_is c.self.invariant.places c.from-place.ensures (omega arith)
