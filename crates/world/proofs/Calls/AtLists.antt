-- A call at a node of a list is one at the list.
use Rattle.std.proofs.Common.{◌≡◌, ℕ, ◌<◌, true, List, [], ◌∷◌, length, refl, sym, ap, ◌∙◌, subst, Some, zero, suc, get_or}
use Rattle.world.proofs.Votes.PassedTests.{passes}
use Rattle.std.proofs.lemmas.Option.{slice_get_within, get_or_from_slice_get, slice_get_read}
use Rattle.std.specs.Prelude.{slice_get, slice_set}
use Rattle.std.specs.declared.result.Result.{Result}
use Rattle.aeg_base.specs.declared.names.End.{End}
use Rattle.aeg_disk.specs.Disk.{DiskState}
use Rattle.aeg_base.specs.declared.names.NodeId.{NodeId}
use Rattle.aeg_base.specs.declared.names.Tier.{Tier}
use Rattle.tier_model.specs.declared.turn.Turn.{Turn as Answer}
use Rattle.tier_model.specs.declared.turn.Fault.{Fault}
use Rattle.world.specs.Parts.{View, PartOf, shape, Moves, Restarts, is_up}
use Rattle.world.specs.declared.nodes.all_nodes.Nodes.{Nodes}
use Rattle.world.specs.NodeLists.{view_up, views, KeepsElse, RowOf, ListMoves, MoveIn, NodesMove, RestartIn, NodeRestarts}
use Rattle.world.proofs.Calls.OfOneTier.{keeps_refl}

-- the item that is read there
pub read_is : {A : Type 0} (xs : List A) (x : ℕ) (v m : A) → v ≡ get_or xs x v → slice_get xs x ≡ Some m → v ≡ m
read_is xs x v m e f = e ∙ get_or_from_slice_get xs x m v f

pub view_below : {S : Type 0} (vs : List (View S)) (x : ℕ) → view_up (slice_get vs x) ≡ true → x < length vs
view_below vs x e = let m = passes view_up (slice_get vs x) refl e in slice_get_within vs x m.0 m.1

pub view_is_up : {S : Type 0} (vs : List (View S)) (x : ℕ) (v : View S) → v ≡ get_or vs x v → view_up (slice_get vs x) ≡ true → is_up v.part ≡ true
view_is_up {S} vs x v r e = let m = passes view_up (slice_get vs x) refl e in subst (λ (z : View S). is_up z.part ≡ true) (sym (read_is vs x v m.0 r m.1)) m.2

pub view_reads_up : {S : Type 0} (vs : List (View S)) (x : ℕ) (v : View S) → x < length vs → v ≡ get_or vs x v → is_up v.part ≡ view_up (slice_get vs x)
view_reads_up vs x v l r = sym (ap view_up (slice_get_read vs (length vs) x v refl l r))

-- AT A NODE OF ITS TIER

pub in_tier : (t : Tier) (old new : Nodes) (n : NodeId) (x : ℕ) (v m : View (PartOf t)) (a b : DiskState) (before after : List (End × List ℕ))
    (row : RowOf) (result : Result Answer Fault) → n.tier ≡ t → x ≡ n.index → v ≡ get_or (views old t) x v
    → views new t ≡ slice_set (views old t) x m → KeepsElse t old new → Moves (shape t) v m a b before after (row _ ((shape t).rows v)) result
    → NodesMove old new n a b before after row result
in_tier t old new n x v m a b before after row result e r read f keeps k =
    let at : MoveIn old new t x a b before after row result =
    (λ w g. (m, f, subst (λ z. Moves (shape t) z m a b before after (row _ ((shape t).rows z)) result) (read_is (views old t) x v w read g) k), keeps) in
    subst (λ z. MoveIn old new z n.index a b before after row result) (sym e) (subst (λ z. MoveIn old new t z a b before after row result) r at)

pub restarts_in : (t : Tier) (old new : Nodes) (n : NodeId) (x : ℕ) (v m : View (PartOf t)) (a b : DiskState) (result : Result ℕ Fault)
    → n.tier ≡ t → x ≡ n.index → v ≡ get_or (views old t) x v → views new t ≡ slice_set (views old t) x m → KeepsElse t old new
    → Restarts (shape t) v m a b result → NodeRestarts old new n a b result
restarts_in t old new n x v m a b result e r read f keeps k =
    let at : RestartIn old new t x a b result =
    (λ w g. (m, f, subst (λ z. Restarts (shape t) z m a b result) (read_is (views old t) x v w read g) k), keeps) in
    subst (λ z. RestartIn old new z n.index a b result) (sym e) (subst (λ z. RestartIn old new t z a b result) r at)

-- A CALL THAT CHANGES NOTHING

pub set_same : {A : Type 0} (xs : List A) (x : ℕ) (v : A) → slice_get xs x ≡ Some v → xs ≡ slice_set xs x v
set_same [] x v e = absurd (cc)
set_same (y ∷ xs) zero v e = let f : y ≡ v = cc in ap (λ z. z ∷ xs) f
set_same (y ∷ xs) (suc x) v e = ap (λ z. y ∷ z) (set_same xs x v e)

pub still_in : (t : Tier) (old : Nodes) (n : NodeId) (x : ℕ) (v : View (PartOf t)) (a b : DiskState) (before after : List (End × List ℕ))
    (row : RowOf) (result : Result Answer Fault) → n.tier ≡ t → x ≡ n.index → v ≡ get_or (views old t) x v
    → Moves (shape t) v v a b before after (row _ ((shape t).rows v)) result → NodesMove old old n a b before after row result
still_in t old n x v a b before after row result e r read k =
    let all : ListMoves t (views old t) (views old t) x a b before after row result =
    λ m f. (
      m,
      set_same (views old t) x m f,
      subst (λ z. Moves (shape t) z z a b before after (row _ ((shape t).rows z)) result) (read_is (views old t) x v m read f) k,
    ) in
    let at : MoveIn old old t x a b before after row result = (all, keeps_refl t old) in
    subst (λ z. MoveIn old old z n.index a b before after row result) (sym e) (subst (λ z. MoveIn old old t z a b before after row result) r at)
