use Rattle.std.proofs.Common.{◌≡◌, ◌∙◌, ◌++◌, ◌+◌, get_or, sym, ap, drop, slice_index_or, [], arith}
use Rattle.kv_store.specs.Columns.{lists_of, all_pairs}
use Rattle.kv_store.proofs.Writes.{join_step, get-lists, length-lists}
use Rattle.kv_store.proofs.copies.join.Goals as goal

pub columns-preserved : goal.columns-preserved
columns-preserved c =
    let vectors = c.args.columns.now in
    let class = c.columns.class in
    let eight = c.type_inv.columns in
    let less = c.columns-test.true in
    let long = length-lists vectors in
    let here = get-lists vectors class c.index-columns-from.result (omega arith) in
    let column : c.deref.result.now ≡ get_or (lists_of vectors) class [] = c.deref.ensures.value
    ∙ ap (λ n. (slice_index_or vectors n c.index-columns-from.result).items) c.from.ensures ∙ sym here in
    ap (λ xs. xs ++ all_pairs (class + 1) (drop (class + 1) (lists_of vectors))) c.in_ok-add_column.ensures
    ∙ join_step c.columns.pairs.items (lists_of vectors) class class c.deref.result.now (omega arith) column
    ∙ c.columns.invariant
