-- The nodes of the three tiers, by their indexes, and a call at one of them.
use Rattle.std.specs.Prelude.{◌≡◌, ℕ, ◌+◌, ◌*◌, ◌<◌, Bool, true, false, List, length, slice_get, slice_set, Option, Some, None}
use Rattle.std.specs.declared.result.Result.{Result}
use Rattle.aeg_base.specs.declared.names.Tier.{Tier}
use Rattle.aeg_base.specs.declared.names.Tier.TheVariants as tiers
use Rattle.aeg_base.specs.declared.names.NodeId.{NodeId}
use Rattle.aeg_base.specs.declared.names.End.{End}
use Rattle.log_model.specs.Log.{LogState, nobody}
use Rattle.aeg_disk.specs.Disk.{DiskState}
use Rattle.log_model.specs.Nodes.{Mode}
use Rattle.log_model.specs.Nodes.Mode.{Up, Down, Gone}
use Rattle.log_values.specs.declared.any_value.AnyValue.{AnyValue}
use Rattle.frames.specs.declared.message.Msg.{Msg}
use Rattle.tier_model.specs.declared.turn.Turn.{Turn as Answer}
use Rattle.tier_model.specs.declared.turn.Fault.{Fault}
use Rattle.round_model.specs.Lists.{each}
use Rattle.tier_model.specs.Moves.{Move}
use Rattle.tier_model.specs.Kinds.{Kind}
use Rattle.world.specs.declared.nodes.all_nodes.Nodes.{Nodes}
use Rattle.world.specs.declared.nodes.condition.Condition.{Condition}
use Rattle.world.specs.declared.nodes.condition.Condition.TheVariants as conditions
use Rattle.world.specs.Parts.{NodePart, MidPart, View, MidView, BackView, PartOf, shape, Moves, Restarts, MayWrite}
use Rattle.world.specs.Parts.{CanReach, is_up, is_down_in, new_part, view_with}

-- NEW NODES

-- only a middle node has a pipeline
abbrev pub depth_at : Tier → ℕ → ℕ
depth_at tiers.Mid depth = depth
depth_at tiers.Inv depth = 0
depth_at tiers.Pay depth = 0

abbrev pub new_mid : ℕ → ℕ → ℕ → MidView
new_mid u depth x = record { faults = u; tier = tiers.Mid; depth = depth; me = x; part = new_part }

abbrev pub new_back : ℕ → Tier → ℕ → BackView
new_back u t x = record { faults = u; tier = t; depth = 0; me = x; part = new_part }

-- all are down, with journals that have not begun
pub record AreNew (u depth : ℕ) (nodes : Nodes) : Type 0 where
  pub mids : nodes.mids.items ≡ each (2 * u + 1) nobody (new_mid u depth)
  pub invs : nodes.invs.items ≡ each (2 * u + 1) nobody (new_back u tiers.Inv)
  pub pays : nodes.pays.items ≡ each (2 * u + 1) nobody (new_back u tiers.Pay)

-- A NODE OF THEM

-- the nodes of a tier
abbrev pub views : Nodes → (t : Tier) → List (View (PartOf t))
views nodes tiers.Mid = nodes.mids.items
views nodes tiers.Inv = nodes.invs.items
views nodes tiers.Pay = nodes.pays.items

abbrev pub size_of : Nodes → Tier → ℕ
size_of nodes tiers.Mid = length nodes.mids.items
size_of nodes tiers.Inv = length nodes.invs.items
size_of nodes tiers.Pay = length nodes.pays.items

abbrev pub HasNode : Nodes → NodeId → Type 0
HasNode nodes n = n.index < size_of nodes n.tier

abbrev pub view_up : {S : Type 0} → Option (View S) → Bool
view_up None = false
view_up (Some v) = is_up v.part

abbrev pub up_in : Nodes → Tier → ℕ → Bool
up_in nodes tiers.Mid x = view_up (slice_get nodes.mids.items x)
up_in nodes tiers.Inv x = view_up (slice_get nodes.invs.items x)
up_in nodes tiers.Pay x = view_up (slice_get nodes.pays.items x)

abbrev pub up_at : Nodes → NodeId → Bool
up_at nodes n = up_in nodes n.tier n.index

abbrev pub IsUpAt : Nodes → NodeId → Type 0
IsUpAt nodes n = up_at nodes n ≡ true

-- the message can reach the node
abbrev pub CanReachIn : Nodes → Tier → ℕ → End → Msg → Type 0
CanReachIn nodes tiers.Mid x from message = (m : MidView) → slice_get nodes.mids.items x ≡ Some m → CanReach m.faults from tiers.Mid message
CanReachIn nodes tiers.Inv x from message = (b : BackView) → slice_get nodes.invs.items x ≡ Some b → CanReach b.faults from b.tier message
CanReachIn nodes tiers.Pay x from message = (b : BackView) → slice_get nodes.pays.items x ≡ Some b → CanReach b.faults from b.tier message

abbrev pub CanReachAt : Nodes → NodeId → End → Msg → Type 0
CanReachAt nodes n from message = CanReachIn nodes n.tier n.index from message

-- CALLS

-- all tiers but this one stay
abbrev pub KeepsElse : Tier → Nodes → Nodes → Type 0
KeepsElse tiers.Mid old new = (new.invs.items ≡ old.invs.items) × (new.pays.items ≡ old.pays.items)
KeepsElse tiers.Inv old new = (new.mids.items ≡ old.mids.items) × (new.pays.items ≡ old.pays.items)
KeepsElse tiers.Pay old new = (new.mids.items ≡ old.mids.items) × (new.invs.items ≡ old.invs.items)

-- one of the rows of a node
abbrev pub RowOf : Type 1
RowOf = (S : Type 0) → Kind S → S → Move S

-- the node x of the list makes the move of this row, and no other changes
abbrev pub ListMoves : (t : Tier) → List (View (PartOf t)) → List (View (PartOf t)) → ℕ → DiskState → DiskState
    → List (End × List ℕ) → List (End × List ℕ) → RowOf → Result Answer Fault → Type 0
ListMoves t old new x disk_before disk_after before after row result = (v : View (PartOf t)) → slice_get old x ≡ Some v
    → (n : View (PartOf t)) × (new ≡ slice_set old x n) × Moves (shape t) v n disk_before disk_after before after (row _ ((shape t).rows v)) result

-- at a node of the tier, and the other tiers stay
abbrev pub MoveIn : Nodes → Nodes → Tier → ℕ → DiskState → DiskState → List (End × List ℕ) → List (End × List ℕ) → RowOf → Result Answer Fault → Type 0
MoveIn old new t x disk_before disk_after before after row result = ListMoves t (views old t) (views new t) x
    disk_before disk_after before after row result × KeepsElse t old new

abbrev pub NodesMove : Nodes → Nodes → NodeId → DiskState → DiskState → List (End × List ℕ) → List (End × List ℕ) → RowOf → Result Answer Fault → Type 0
NodesMove old new n disk_before disk_after before after row result = MoveIn old new n.tier n.index disk_before disk_after before after row result

-- the disk of the node is such as it may write to
abbrev pub MayWriteIn : Nodes → Tier → ℕ → DiskState → Type 0
MayWriteIn nodes tiers.Mid x disk = (m : MidView) → slice_get nodes.mids.items x ≡ Some m → MayWrite m.part disk
MayWriteIn nodes tiers.Inv x disk = (b : BackView) → slice_get nodes.invs.items x ≡ Some b → MayWrite b.part disk
MayWriteIn nodes tiers.Pay x disk = (b : BackView) → slice_get nodes.pays.items x ≡ Some b → MayWrite b.part disk

abbrev pub MayWriteAt : Nodes → NodeId → DiskState → Type 0
MayWriteAt nodes n disk = MayWriteIn nodes n.tier n.index disk

-- RESTARTS

-- the backend nodes are of their tiers
pub record KeepTiers (nodes : Nodes) : Type 0 where
  pub invs : (x : ℕ) (b : BackView) → slice_get nodes.invs.items x ≡ Some b → b.tier ≡ tiers.Inv
  pub pays : (x : ℕ) (b : BackView) → slice_get nodes.pays.items x ≡ Some b → b.tier ≡ tiers.Pay

abbrev pub is_down : {S : Type 0} → NodePart S → Bool
is_down part = is_down_in part.mode

abbrev pub view_down : {S : Type 0} → Option (View S) → Bool
view_down None = false
view_down (Some v) = is_down v.part

abbrev pub down_in : Nodes → Tier → ℕ → Bool
down_in nodes tiers.Mid x = view_down (slice_get nodes.mids.items x)
down_in nodes tiers.Inv x = view_down (slice_get nodes.invs.items x)
down_in nodes tiers.Pay x = view_down (slice_get nodes.pays.items x)

abbrev pub IsDownAt : Nodes → NodeId → Type 0
IsDownAt nodes n = down_in nodes n.tier n.index ≡ true

abbrev pub RestartIn : Nodes → Nodes → Tier → ℕ → DiskState → DiskState → Result ℕ Fault → Type 0
RestartIn old new t x before after result = ((v : View (PartOf t)) → slice_get (views old t) x ≡ Some v
    → (n : View (PartOf t)) × (views new t ≡ slice_set (views old t) x n) × Restarts (shape t) v n before after result) × KeepsElse t old new

abbrev pub NodeRestarts : Nodes → Nodes → NodeId → DiskState → DiskState → Result ℕ Fault → Type 0
NodeRestarts old new n before after result = RestartIn old new n.tier n.index before after result

-- DOWN, GONE, AND WITHOUT DOUBT

-- the node's part is changed so, and nothing else
abbrev pub ChangedIn : Nodes → Nodes → Tier → ℕ → ((S : Type 0) → NodePart S → NodePart S) → Type 0
ChangedIn old new tiers.Mid x change = ((m : MidView) → slice_get old.mids.items x ≡ Some m
    → new.mids.items ≡ slice_set old.mids.items x (view_with (change MidPart) m))
    × ((new.invs.items ≡ old.invs.items) × (new.pays.items ≡ old.pays.items))
ChangedIn old new tiers.Inv x change = ((b : BackView) → slice_get old.invs.items x ≡ Some b
    → new.invs.items ≡ slice_set old.invs.items x (view_with (change (LogState AnyValue)) b))
    × ((new.mids.items ≡ old.mids.items) × (new.pays.items ≡ old.pays.items))
ChangedIn old new tiers.Pay x change = ((b : BackView) → slice_get old.pays.items x ≡ Some b
    → new.pays.items ≡ slice_set old.pays.items x (view_with (change (LogState AnyValue)) b))
    × ((new.mids.items ≡ old.mids.items) × (new.invs.items ≡ old.invs.items))

abbrev pub Changes : Nodes → Nodes → NodeId → ((S : Type 0) → NodePart S → NodePart S) → Type 0
Changes old new n change = ChangedIn old new n.tier n.index change

-- WHETHER A NODE IS THERE

abbrev pub condition_in : {S : Type 0} → Mode S → Condition
condition_in (Up s) = conditions.Up
condition_in Down = conditions.Down
condition_in Gone = conditions.Gone

abbrev pub view_condition : {S : Type 0} → Option (View S) → Condition
view_condition None = conditions.Down
view_condition (Some v) = condition_in v.part.mode

abbrev pub condition_at : Nodes → Tier → ℕ → Condition
condition_at nodes tiers.Mid x = view_condition (slice_get nodes.mids.items x)
condition_at nodes tiers.Inv x = view_condition (slice_get nodes.invs.items x)
condition_at nodes tiers.Pay x = view_condition (slice_get nodes.pays.items x)
