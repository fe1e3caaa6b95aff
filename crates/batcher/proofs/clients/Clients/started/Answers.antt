use Rattle.std.proofs.Common.{ap, arith, None, false, true}
use Rattle.batcher.specs.Clients.{ClientTable}
use Rattle.batcher.proofs.Places.{write, table_is}
use Rattle.batcher.proofs.clients.Clients.started.Goals as goal

pub returns : goal.returns
returns c =
    table_is _ _ _ _ _ _
    (write 0 c.self.inside.last c.args.self.now.last c.from-place.result c.args.who.client c.args.who.seq
    (ap (λ (t : ClientTable). t.last) c.self.view_is) c.self.invariant.0 c.from-place.ensures (omega arith))
    (write None c.self.inside.kept c.args.self.now.kept c.from-place.result c.args.who.client None (ap (λ (t : ClientTable). t.kept) c.self.view_is)
    c.self.invariant.1 c.from-place.ensures (omega arith))
    (write false c.self.inside.busy c.args.self.now.busy c.from-place.result c.args.who.client true (ap (λ (t : ClientTable). t.busy) c.self.view_is)
    c.self.invariant.2 c.from-place.ensures (omega arith))
