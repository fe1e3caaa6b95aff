use Rattle.std.proofs.Common.{◌∙◌, sym, ap, le_refl}
use Rattle.kv_store.specs.Stores.{Holding}
use Rattle.kv_store.proofs.Flat.{store_of}
use Rattle.kv_store.proofs.Writes.{grown}
use Rattle.kv_store.proofs.store.Store.copy.Goals as goal

pub invariant_of-result : goal.invariant_of-result
invariant_of-result c = grown c.self.inside.columns _ _ _ _ c.self.invariant (c.in_ok-grow.ensures.lists
    ∙ c.in_ok-columns.ensures.same) (c.in_ok-grow.ensures.eight ∙ c.in_ok-columns.ensures.eight
    ∙ sym c.self.invariant.eight) (le_refl _) c.in_ok-grow.ensures.roomy

pub returns : goal.returns
returns c = ap store_of (c.in_ok-grow.ensures.lists ∙ c.in_ok-columns.ensures.same) ∙ ap (λ (h : Holding). h.map) c.self.view_is
