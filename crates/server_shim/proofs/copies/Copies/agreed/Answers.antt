use Rattle.std.proofs.Common.{◌<◌, sym, arith}
use Rattle.round_model.specs.Shims.{givers}
use Rattle.round_model.proofs.ShimLaws.{agreed_at}
use Rattle.server_shim.proofs.copies.Copies.agreed.Goals as goal

pub returns-then-givers-u : goal.returns-then-givers-u
returns-then-givers-u c =
    let many : c.args.u < givers c.args.u c.args.self.now c.in-Some.text.now = rw c.givers.ensures.count at c.if-givers-u.true in
    record {
      text = sym (agreed_at c.args.u c.args.self.now c.loop-node.node c.in-Some.text.now c.loop-node.invariant (omega arith)
          (sym c.in-Some.ensures.copy) many);
    }
