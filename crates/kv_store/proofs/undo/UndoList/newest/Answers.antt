use Rattle.std.proofs.Common.{subst}
use Rattle.kv_store.specs.Stores.{AreKeys}
use Rattle.kv_store.proofs.Unwinding.{keys_before, key_last}
use Rattle.kv_store.proofs.undo.UndoList.newest.Goals as goal

pub invariant_of-self : goal.invariant_of-self
invariant_of-self c = keys_before _ c.in-Some.newest (subst AreKeys c.in-Some.ensures.items c.self.invariant)

pub returns-clause-class : goal.returns-clause-class
returns-clause-class c = key_last _ c.in-Some.newest (subst AreKeys c.in-Some.ensures.items c.self.invariant)
