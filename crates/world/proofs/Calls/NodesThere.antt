-- Which nodes are there, in the parts as in the world.
use Rattle.std.proofs.Common.{◌≡◌, ℕ, ◌+◌, ◌*◌, ◌<◌, refl, sym, ap, ◌∙◌, subst, arith, Some}
use Rattle.std.specs.Prelude.{slice_get}
use Rattle.aeg_base.specs.declared.names.Tier.{Tier}
use Rattle.aeg_base.specs.declared.names.Tier.TheVariants.{Mid as MidTier, Inv, Pay}
use Rattle.aeg_base.specs.declared.names.NodeId.{NodeId}
use Rattle.log_model.specs.Nodes.{Mode, Node as NodeOf}
use Rattle.log_model.specs.Nodes.Mode.{Up, Down, Gone}
use Rattle.log_values.specs.declared.fact.Fact.{Fact}
use Rattle.run_model.specs.BookingRuns.{BookingWorld}
use Rattle.run_model.specs.Resolving as resolving
use Rattle.run_model.specs.Resolving.{is_node_up}
use Rattle.world.specs.declared.nodes.all_nodes.Nodes.{Nodes}
use Rattle.world.specs.declared.parts.Parts.{Parts}
use Rattle.world.specs.NodeLists.{HasNode, views, view_up, up_in, condition_in, view_condition, condition_at, size_of}
use Rattle.world.specs.Parts.{NodePart, View, PartOf, is_up}
use Rattle.world.specs.Standing.{mode_by, IsNode, IsAt, AreNodes, Shows}
use Rattle.world.proofs.Calls.OfOneTier.{up_is, condition_is}
use Rattle.log_model.proofs.Basics.{get_within}

mode_up : {S T : Type 0} (whole : S → T) (m : Mode S) → resolving.is_up m ≡ resolving.is_up (mode_by whole m)
mode_up whole (Up s) = refl
mode_up whole Down = refl
mode_up whole Gone = refl

part_up : {S T : Type 0} (t : Tier) (whole : S → T) (open_of : S → ℕ) (node : NodeOf T Fact) (part : NodePart S)
    → IsNode t whole open_of node part → is_up part ≡ resolving.is_up node.mode
part_up t whole open_of node part k = mode_up whole part.mode ∙ ap resolving.is_up (sym k.mode)

-- its place in the list, and that it is the world's
pub node_at : (u depth : ℕ) (w : BookingWorld) (nodes : Nodes) (t : Tier) (x : ℕ) → AreNodes u depth w nodes → x < 2 * u + 1
    → (v : View (PartOf t)) × (slice_get (views nodes t) x ≡ Some v) × IsAt u depth t x (w.nodes t x) v
node_at u depth w nodes t x k l =
    let all = k.at t in
    let v = get_within (views nodes t) x (omega (arith, all.size, l)) in
    (v.0, v.1, all.each x v.0 v.1)

pub node_up : (u depth : ℕ) (w : BookingWorld) (nodes : Nodes) (t : Tier) (x : ℕ) → AreNodes u depth w nodes
    → x < 2 * u + 1 → up_in nodes t x ≡ is_node_up w t x
node_up u depth w nodes t x k l =
    let v = node_at u depth w nodes t x k l in
    up_is nodes t x ∙ ap view_up v.1 ∙ part_up _ _ _ (w.nodes t x) v.0.part v.2.part

mode_condition : {S T : Type 0} (whole : S → T) (m : Mode S) → condition_in m ≡ condition_in (mode_by whole m)
mode_condition whole (Up s) = refl
mode_condition whole Down = refl
mode_condition whole Gone = refl

part_condition : {S T : Type 0} (t : Tier) (whole : S → T) (open_of : S → ℕ) (node : NodeOf T Fact) (part : NodePart S)
    → IsNode t whole open_of node part → condition_in part.mode ≡ condition_in node.mode
part_condition t whole open_of node part k = mode_condition whole part.mode ∙ ap condition_in (sym k.mode)

pub node_condition : (u depth : ℕ) (w : BookingWorld) (nodes : Nodes) (t : Tier) (x : ℕ) → AreNodes u depth w nodes → x < 2 * u + 1
    → condition_at nodes t x ≡ condition_in (w.nodes t x).mode
node_condition u depth w nodes t x k l =
    let v = node_at u depth w nodes t x k l in
    condition_is nodes t x ∙ ap view_condition v.1 ∙ part_condition _ _ _ (w.nodes t x) v.0.part v.2.part

-- the node is one of its tier
pub has_node : (u depth : ℕ) (w : BookingWorld) (nodes : Nodes) (x : ℕ) (t : Tier) → AreNodes u depth w nodes → x < 2 * u + 1 → x < size_of nodes t
has_node u depth w nodes x MidTier k l = let all = k.at MidTier in omega (arith, all.size, l)
has_node u depth w nodes x Inv k l = let all = k.at Inv in omega (arith, all.size, l)
has_node u depth w nodes x Pay k l = let all = k.at Pay in omega (arith, all.size, l)

pub has_shown : (u depth : ℕ) (w : BookingWorld) (parts : Parts) (n : NodeId) → Shows u depth w parts → n.index < 2 * parts.u + 1 → HasNode parts.nodes n
has_shown u depth w parts n s l = has_node u depth w parts.nodes n.index n.tier s.nodes (subst (λ z. n.index < 2 * z + 1) s.size l)
