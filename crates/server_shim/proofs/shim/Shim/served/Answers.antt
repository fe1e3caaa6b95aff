use Rattle.server_shim.proofs.Waiting.{others_wait}
use Rattle.server_shim.proofs.shim.Shim.served.Goals as goal

pub invariant_of-self-2 : goal.invariant_of-self-2
invariant_of-self-2 c =
    let others = others_wait c.self.inside.kept c.put.new.self c.self.inside.floor c.self.inside.calls.copies c.take_out.new.self.copies
    c.args.no c.args.code c.self.invariant.2.sorted c.self.invariant.3 c.in_ok-put.ensures.ok c.take_out.ensures.copies in
    (c.self.invariant.0, c.self.invariant.1, c.take_out.ensures.ready, others)
