use Rattle.std.proofs.Common.{◌≡◌, length, sym, arith, vec_len}
use Rattle.std.proofs.lemmas.Bool.{eqb-true, eqb-false}
use Rattle.std.proofs.lemmas.List.{nil_from_length}
use Rattle.world.proofs.Rows.MidOffers.{own_stands, past_stands, own_past, own_empty, own_batched, some_if}
use Rattle.world.proofs.nodes.mid_node.MidNode.own_value.Goals as goal

pub returns-then-first_open-gt0-clause-value : goal.returns-then-first_open-gt0-clause-value
returns-then-first_open-gt0-clause-value c = own_past c.self.inside.node c.self.inside.depth c.self.inside.pending
    c.args.self.now c.first_open.result c.self.view_is c.self.invariant.0 c.first_open.ensures.range
    c.first_open.ensures.position c.if-first_open-gt0.true

pub returns-then-is_empty-clause-value : goal.returns-then-is_empty-clause-value
returns-then-is_empty-clause-value c =
    let t : vec_len c.in_ok-batch.batch ≡ 0 = eqb-true (vec_len c.in_ok-batch.batch) 0 (sym c.if-is_empty.ensures) in
    let n : length c.in_ok-batch.batch.items ≡ 0 = omega arith in
    own_empty c.self.inside.node c.self.inside.depth c.self.inside.pending c.args.self.now c.first_open.result
    c.in_ok-batch.batch.items c.self.view_is c.first_open.ensures.position c.if-first_open-gt0.false
    c.in_ok-batch.ensures.batch (nil_from_length c.in_ok-batch.batch.items n)

pub returns-clause-value : goal.returns-clause-value
returns-clause-value c =
    let t : vec_len c.in_ok-batch.batch ≡ 0 → ⊥ = eqb-false (vec_len c.in_ok-batch.batch) 0 (sym c.if-is_empty.ensures) in
    let n : length c.in_ok-batch.batch.items ≡ 0 → ⊥ = λ e. t (omega arith) in
    rw c.of.ensures (own_batched c.self.inside.node c.self.inside.depth c.self.inside.pending c.args.self.now
    c.first_open.result c.in_ok-batch.batch.items c.self.view_is c.first_open.ensures.position
    c.if-first_open-gt0.false c.in_ok-batch.ensures.batch (some_if c.in_ok-batch.batch.items n))

pub returns-then-first_open-gt0-clause-stands : goal.returns-then-first_open-gt0-clause-stands
returns-then-first_open-gt0-clause-stands c = past_stands c.self.inside.node c.self.inside.depth c.self.inside.pending
    c.args.self.now c.first_open.result c.self.view_is c.self.invariant.0 c.first_open.ensures.range
    c.first_open.ensures.position c.if-first_open-gt0.true

pub returns-in_err-batch-clause-stands : goal.returns-in_err-batch-clause-stands
returns-in_err-batch-clause-stands c = own_stands c.self.inside.node c.self.inside.depth c.self.inside.pending
    c.args.self.now c.self.view_is c.self.invariant.0 c.first_open.ensures.range c.batch.ensures.fits

pub returns-then-is_empty-clause-stands : goal.returns-then-is_empty-clause-stands
returns-then-is_empty-clause-stands c = own_stands c.self.inside.node c.self.inside.depth c.self.inside.pending
    c.args.self.now c.self.view_is c.self.invariant.0 c.first_open.ensures.range c.batch.ensures.fits

pub returns-clause-stands : goal.returns-clause-stands
returns-clause-stands c = own_stands c.self.inside.node c.self.inside.depth c.self.inside.pending c.args.self.now
    c.self.view_is c.self.invariant.0 c.first_open.ensures.range c.batch.ensures.fits
