use Rattle.std.proofs.Common.{◌≡◌, ◌≢◌, ℕ, ◌<◌, ◌≤◌, ◌+◌, Some, sym, ap, subst, ◌∙◌, unwrap_or, arith}
use Rattle.aeg_base.specs.Store.{written}
use Rattle.kv_store.specs.Columns.{map_of}
use Rattle.kv_store.specs.Stores.{Holding, size}
use Rattle.kv_store.proofs.Writes.{column_at, column_fits, column_room, map_after, still_columns, room_for, added_within}
use Rattle.kv_store.proofs.store.Store.set.Goals as goal

pub set-added-requires-clause-rising : goal.set-added-requires-clause-rising
set-added-requires-clause-rising c = (column_at _ _ _ c.self.invariant c.args.key c.requires.class _ c.from.ensures c.index-self-from.result).rising

pub set-added-requires-clause-room : goal.set-added-requires-clause-room
set-added-requires-clause-room c none =
    let d = c.index-self-from.result in
    let fits = column_fits _ _ _ c.self.invariant c.args.key c.requires.class _ c.from.ensures d in
    let roomy = column_room _ _ _ c.self.invariant c.args.key c.requires.class _ c.from.ensures d in
    let room : size (written (map_of c.self.inside.columns) c.args.key c.args.value) ≤ c.self.inside.room = subst
    (λ (h : Holding). size (written h.map c.args.key c.args.value) ≤ h.room) (sym c.self.view_is) c.requires.room in
    let one = room_for _ _ _ c.self.invariant c.args.key c.requires.class _ c.from.ensures d c.args.value c.requires.value none room in
    omega arith

not_zero : (n : ℕ) → 0 < n → Some n ≢ Some 0
not_zero n lt e = let z : n ≡ 0 = ap (λ o. unwrap_or o 0) e in omega arith

pub invariant_of-self : goal.invariant_of-self
invariant_of-self c =
    let d = c.index-self-from.result in
    let added = c.set-added.ensures in
    let room : size (written (map_of c.self.inside.columns) c.args.key c.args.value) ≤ c.self.inside.room = subst
    (λ (h : Holding). size (written h.map c.args.key c.args.value) ≤ h.room) (sym c.self.view_is) c.requires.room in
    let bound : c.self.inside.count + c.set-added.result ≤ c.self.inside.room = added_within _ _ _
    c.self.invariant.within added.most
    (λ lt. room_for _ _ _ c.self.invariant c.args.key c.requires.class _ c.from.ensures d c.args.value
    c.requires.value (added.new lt) room) in
    still_columns _ _ _ c.self.invariant c.args.key c.requires.class _ c.from.ensures d c.set-added.new.column
    (Some c.args.value) (not_zero _ c.requires.value) added.rising added.sets
    (c.self.inside.count + c.set-added.result) added.capacity (omega arith) bound

pub returns-clause-map : goal.returns-clause-map
returns-clause-map c =
    map_after _ _ _ c.self.invariant c.args.key c.requires.class _ c.from.ensures c.index-self-from.result
    c.set-added.new.column (Some c.args.value) (not_zero _ c.requires.value) c.set-added.ensures.rising c.set-added.ensures.sets
    ∙ ap (λ (h : Holding). written h.map c.args.key c.args.value) c.self.view_is
