use Rattle.std.proofs.Common.{◌-◌, None, le_of_eq, sym, ap, ◌∙◌, arith}
use Rattle.aeg_base.specs.Store.{written}
use Rattle.kv_store.specs.Stores.{Holding}
use Rattle.kv_store.proofs.Writes.{column_at, column_fits, map_after, still_columns}
use Rattle.kv_store.proofs.store.Store.take_out.Goals as goal

pub take_out-gone-requires : goal.take_out-gone-requires
take_out-gone-requires c = record { rising = (column_at _ _ _ c.self.invariant c.args.key c.requires.class _ c.from.ensures c.index-self-from.result).rising }

pub overflow_sub-self : goal.overflow_sub-self
overflow_sub-self c =
    let fits = column_fits _ _ _ c.self.invariant c.args.key c.requires.class _ c.from.ensures c.index-self-from.result in
    let gone = c.take_out-gone.ensures.gone in
    omega arith

pub invariant_of-self : goal.invariant_of-self
invariant_of-self c =
    let d = c.index-self-from.result in
    let out = c.take_out-gone.ensures in
    let fits = column_fits _ _ _ c.self.invariant c.args.key c.requires.class _ c.from.ensures d in
    let within = c.self.invariant.within in
    let gone = out.gone in
    still_columns _ _ _ c.self.invariant c.args.key c.requires.class _ c.from.ensures d c.take_out-gone.new.column None
    (λ e. cc) out.rising out.takes (c.self.inside.count - c.take_out-gone.result) (le_of_eq (sym out.capacity))
    (omega arith) (omega arith)

pub returns-clause-map : goal.returns-clause-map
returns-clause-map c =
    map_after _ _ _ c.self.invariant c.args.key c.requires.class _ c.from.ensures c.index-self-from.result
    c.take_out-gone.new.column None (λ e. cc) c.take_out-gone.ensures.rising c.take_out-gone.ensures.takes
    ∙ ap (λ (h : Holding). written h.map c.args.key 0) c.self.view_is
