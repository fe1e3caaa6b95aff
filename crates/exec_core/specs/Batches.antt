-- A store in the middle of a batch.
use Rattle.std.specs.Prelude.{ℕ, ◌≤◌, length, refl}
use Rattle.std.specs.Coded.{Coded, code_by, coded×}
use Rattle.aeg_base.specs.Store.{Store, store_code}
use Rattle.kv_store.specs.Stores.{Holding, Logged as LoggedPuts, StaysWithin}

-- the store now, as it was at the last mark, and as it was at the batch's start
pub record BatchView : Type 0 where
  pub now : Store
  pub base : Store
  pub start : Store

abbrev pub batch_code : Coded BatchView
batch_code = code_by (Store × (Store × Store)) (coded× store_code (coded× store_code store_code))
    (λ b. (b.now, (b.base, b.start))) (λ p. record { now = p.0; base = (p.1).0; start = (p.1).1 }) (λ _. refl)

-- the list's puts are the store's, undoing them takes no room that is not there, and the mark is a place in the list
pub record IsBatch (store : Holding) (undo : LoggedPuts) (mark : ℕ) : Type 0 where
  pub left : StaysWithin undo.top undo.entries store.map
  pub room : undo.top ≤ store.room
  pub marked : mark ≤ length undo.entries
