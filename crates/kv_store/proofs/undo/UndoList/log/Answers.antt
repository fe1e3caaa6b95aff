use Rattle.std.proofs.Common.{sym, subst}
use Rattle.kv_store.specs.Stores.{AreKeys}
use Rattle.kv_store.proofs.Unwinding.{keys_push}
use Rattle.kv_store.proofs.undo.UndoList.log.Goals as goal

pub invariant_of-self : goal.invariant_of-self
invariant_of-self c = subst AreKeys (sym c.in-Ok.ensures.items) (keys_push _ _ c.self.invariant c.requires.class)
