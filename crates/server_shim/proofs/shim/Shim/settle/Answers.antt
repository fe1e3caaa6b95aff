use Rattle.server_shim.proofs.Waiting.{higher_wait}
use Rattle.server_shim.proofs.shim.Shim.settle.Goals as goal

pub invariant_of-self : goal.invariant_of-self
invariant_of-self c =
    let higher = higher_wait c.self.inside.kept c.drop_below.new.self c.self.inside.floor c.args.floor c.self.inside.calls.copies
    c.drop_below-2.new.self.copies c.self.invariant.2.sorted c.drop_below.ensures.sorted c.self.invariant.3 c.drop_below.ensures.from
    c.drop_below-2.ensures.copies in
    (c.self.invariant.0, c.self.invariant.1, c.drop_below-2.ensures.ready, higher)
