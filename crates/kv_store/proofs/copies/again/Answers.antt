use Rattle.std.proofs.Common.{arith}
use Rattle.kv_store.proofs.Writes.{same_items}
use Rattle.kv_store.proofs.copies.again.Goals as goal

pub returns-clause-same : goal.returns-clause-same
returns-clause-same c = same_items 8 c.each.copies c.args.columns.now c.each.invariant.eight c.type_inv.columns
    (λ k v lt. c.each.invariant.same k v (let end = c.each-test.false in omega arith))
