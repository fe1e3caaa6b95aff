-- What a run leaves in a store, until a verdict.
use Rattle.std.specs.Prelude.{◌≡◌, ◌≤◌}
use Rattle.aeg_base.specs.Changes.{changes}
use Rattle.kv_store.specs.Stores.{Holding, unwound, StaysWithin}
use Rattle.exec_core.specs.declared.ran.Ran.{Ran}

-- the store is the one that the run left, and has room for undoing it
pub record IsLeftBy (ran : Ran) (store : Holding) : Type 0 where
  pub pairs : ran.outcome.pairs ≡ changes (unwound ran.undo.entries store.map) store.map
  pub left : StaysWithin ran.undo.top ran.undo.entries store.map
  pub room : ran.undo.top ≤ store.room
