use Rattle.std.proofs.Common.{◌≡◌, ◌<◌, ℕ, sym, ap, subst, ◌∙◌, [], get_or, slice_index_or, unwrap_or, Option, arith, length}
use Rattle.aeg_base.specs.Store.{value_at}
use Rattle.kv_store.specs.Columns.{IsRising, found, lists_of}
use Rattle.kv_store.specs.Stores.{Holding}
use Rattle.kv_store.proofs.Flat.{value_at-store_of}
use Rattle.kv_store.proofs.Writes.{column_at, get-lists, out_of_range}
use Rattle.kv_store.proofs.store.StoreCells.get.Goals as goal

pub find-requires : goal.find-requires
find-requires c =
    subst IsRising (sym c.deref.ensures.value) (column_at _ _ _ c.self.invariant c.args.key c.if-key-lt8.true _ c.from.ensures c.index-self-from.result).rising

pub returns-then-key-lt8 : goal.returns-then-key-lt8
returns-then-key-lt8 c =
    let d = c.index-self-from.result in
    let n = c.self.inside.columns in
    let here : c.args.key.class < length n = (let e = c.self.invariant.eight in let l = c.if-key-lt8.true in omega arith) in
    let column : c.deref.result.now ≡ get_or (lists_of n) c.args.key.class [] = c.deref.ensures.value
    ∙ ap (λ class. (slice_index_or n class d).items) c.from.ensures ∙ sym (get-lists n c.args.key.class d here) in
    let finds : c.find.result ≡ found (get_or (lists_of n) c.args.key.class []) c.args.key.id = c.find.ensures ∙ ap (λ l. found l c.args.key.id) column in
    c.unwrap_or.ensures ∙ ap (λ (o : Option ℕ). unwrap_or o 0) finds
    ∙ sym (value_at-store_of (lists_of n) c.self.invariant.columns c.args.key) ∙ ap (λ (h : Holding). value_at h.map c.args.key) c.self.view_is

pub returns-else-key-lt8 : goal.returns-else-key-lt8
returns-else-key-lt8 c =
    let n = c.self.inside.columns in
    let out = out_of_range n c.args.key.class (let e = c.self.invariant.eight in let l = c.if-key-lt8.false in omega arith) in
    sym (ap (λ l. unwrap_or (found l c.args.key.id) 0) out)
    ∙ sym (value_at-store_of (lists_of n) c.self.invariant.columns c.args.key) ∙ ap (λ (h : Holding). value_at h.map c.args.key) c.self.view_is
