use Rattle.std.proofs.Common.{sym, ap, ◌∙◌}
use Rattle.kv_store.specs.Stores.{size, Holding}
use Rattle.kv_store.proofs.Flat.{size-store_of}
use Rattle.kv_store.proofs.store.Store.len.Goals as goal

pub returns-clause-count : goal.returns-clause-count
returns-clause-count c = c.self.invariant.counted ∙ sym (size-store_of _ c.self.invariant.columns) ∙ ap (λ (h : Holding). size h.map) c.self.view_is
