use Rattle.std.proofs.Common.{◌≡◌, ◌≤◌, ◌+◌, sym, ap, subst, ◌∙◌, arith, le_trans}
use Rattle.kv_store.specs.Columns.{map_of}
use Rattle.kv_store.specs.Stores.{Holding, size}
use Rattle.kv_store.proofs.Flat.{store_of, size-store_of}
use Rattle.kv_store.proofs.Writes.{grown}
use Rattle.kv_store.proofs.store.Store.make_room.Goals as goal

pub invariant_of-self : goal.invariant_of-self
invariant_of-self c = grown _ _ _ _ _ c.self.invariant c.grow.ensures.lists c.grow.ensures.eight c.self.invariant.within
    (λ class lt v. le_trans (c.self.invariant.roomy class lt v) (c.grow.ensures.kept class v))

pub returns-in_err-grow-clause-map : goal.returns-in_err-grow-clause-map
returns-in_err-grow-clause-map c = ap store_of c.grow.ensures.lists ∙ ap (λ (h : Holding). h.map) c.self.view_is

pub invariant_of-self-then-needed-self : goal.invariant_of-self-then-needed-self
invariant_of-self-then-needed-self c = grown _ _ _ _ _ c.self.invariant c.in_ok-grow.ensures.lists
    c.in_ok-grow.ensures.eight (let a = c.widened-room.ensures in let b = c.in-Some.ensures.1 in omega arith)
    c.in_ok-grow.ensures.roomy

pub returns-in_ok-grow-clause-map : goal.returns-in_ok-grow-clause-map
returns-in_ok-grow-clause-map c = ap store_of c.in_ok-grow.ensures.lists ∙ ap (λ (h : Holding). h.map) c.self.view_is

pub returns-in_ok-grow-clause-room : goal.returns-in_ok-grow-clause-room
returns-in_ok-grow-clause-room c =
    let same = ap store_of c.in_ok-grow.ensures.lists in
    let many : size (map_of c.self.inside.columns) ≡ c.self.inside.count = size-store_of _ c.self.invariant.columns ∙ sym c.self.invariant.counted in
    let many' : size (map_of c.grow.new.columns) ≡ size (map_of c.self.inside.columns) = ap size same in
    let a = c.widened-room.ensures in let b = c.in-Some.ensures.1 in omega arith

pub returns-else-needed-self-clause-room : goal.returns-else-needed-self-clause-room
returns-else-needed-self-clause-room c =
    let many : size (map_of c.self.inside.columns) ≡ c.self.inside.count = size-store_of _ c.self.invariant.columns ∙ sym c.self.invariant.counted in
    subst (λ (h : Holding). size h.map + c.args.more ≤ h.room) c.self.view_is (let a = c.if-needed-self.false in let b = c.in-Some.ensures.1 in omega arith)
