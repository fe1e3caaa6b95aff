use Rattle.std.proofs.Common.{◌≡◌, ◌∙◌, sym, ap, subst, IfOk}
use Rattle.aeg_base.specs.Store.{pairs_of}
use Rattle.kv_store.specs.Stores.{Holding}
use Rattle.kv_store.proofs.Flat.{entries-store_of}
use Rattle.kv_store.proofs.store.Store.pairs.Goals as goal

pub returns : goal.returns
returns c =
    let same = sym (entries-store_of _ c.self.invariant.columns) ∙ ap (λ (h : Holding). pairs_of h.map) c.self.view_is in
    subst (λ es. IfOk c.join.result (λ pairs. pairs.items ≡ es)) same c.join.ensures
