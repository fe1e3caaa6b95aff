-- Nodes that crash, restart, or are wiped: a node is put in its place.
use Rattle.std.proofs.Common.{◌≡◌, ℕ, ◌+◌, ◌*◌, ◌<◌, ◌≤◌, List, [], refl, sym, subst, arith}
use Rattle.std.specs.Prelude.{nat_lt, slice_set}
use Rattle.std.proofs.lemmas.Bool.{cond-true, lt-ltb}
use Rattle.aeg_base.specs.declared.names.Tier.{Tier}
use Rattle.aeg_disk.specs.Disk.{DiskState}
use Rattle.server_model.specs.Backends.{Amounts}
use Rattle.log_model.specs.Nodes.{Node as NodeOf, put}
use Rattle.log_values.specs.declared.fact.Fact.{Fact}
use Rattle.tier_model.specs.Kinds.{State}
use Rattle.run_model.specs.World as worlds
use Rattle.run_model.specs.BookingRuns.{config, BookingWorld}
use Rattle.world.specs.declared.nodes.all_nodes.Nodes.{Nodes}
use Rattle.world.specs.Disks.{IsDiskOf, AreDisks, first_of}
use Rattle.world.specs.NodeLists.{views, KeepsElse}
use Rattle.world.specs.Parts.{View, PartOf}
use Rattle.world.specs.Standing.{IsAt, AreAll, AreNodes}
use Rattle.world.proofs.Calls.OfOneTier.{keeps_refl}
use Rattle.world.proofs.Calls.ArmedDisks.{disk_of}
use Rattle.world.proofs.Calls.OnDisks.{set_one}
use Rattle.world.proofs.Calls.CommandsInWorlds.{Commanded, node_put, disk_put}
use Rattle.world.proofs.Calls.NodesThere.{node_at}
use Rattle.world.proofs.Calls.AtLists.{set_same}

-- A NODE IN ITS PLACE

pub node_placed : (u depth : ℕ) (w : BookingWorld) (old new : Nodes) (t : Tier) (x : ℕ) (disks : List DiskState) (disk : DiskState)
    (node : NodeOf (State Amounts t) Fact) (v : View (PartOf t)) (text told : List ℕ) → u ≤ 2 → x < 2 * u + 1 → AreNodes u depth w old
    → AreDisks w disks → IsAt u depth t x node v → IsDiskOf node disk → views new t ≡ slice_set (views old t) x v → KeepsElse t old new → text ≡ told
    → Commanded u depth w (worlds.placed (config u depth) w t x node) new (slice_set disks (first_of t + x) disk) [] text told
node_placed u depth w old new t x disks disk node v text told few l k d is on s e f =
    subst (λ z. Commanded u depth w z new (slice_set disks (first_of t + x) disk) [] text told)
    (sym (cond-true (nat_lt x (2 * u + 1)) (worlds.with_node w t x node [] []) w (lt-ltb x (2 * u + 1) l))) (record {
      packets = [];
      sends = refl;
      leads = node_put u depth w old new t x node [] k (subst (AreAll (2 * u + 1) (IsAt u depth t) (put (w.nodes t) x node)) (sym s)
          (set_one (2 * u + 1) (IsAt u depth t) (w.nodes t) (views old t) x node v (k.at t) is)) e (λ j p g. absurd (cc)) (λ j p g. absurd (cc));
      on = disk_put w t x node [] disks disk (omega (arith, few, l)) d on;
      clients = refl;
      text_is = f;
    })

-- as it was
pub node_kept : (u depth : ℕ) (w : BookingWorld) (old : Nodes) (t : Tier) (x : ℕ) (disks : List DiskState) (node : NodeOf (State Amounts t) Fact)
    (text told : List ℕ) → u ≤ 2 → x < 2 * u + 1 → AreNodes u depth w old → AreDisks w disks → node ≡ w.nodes t x → text ≡ told
    → Commanded u depth w (worlds.placed (config u depth) w t x node) old disks [] text told
node_kept u depth w old t x disks node text told few l k d e f =
    let v = node_at u depth w old t x k l in
    let b = disk_of w u x t disks few d l in
    let placed = node_placed u depth w old old t x disks b.0 node v.0 text told few l k d (subst (λ z. IsAt u depth t x z v.0) (sym e) v.2)
    (subst (λ z. IsDiskOf z b.0) (sym e) (d.at t x b.0 (omega (arith, few, l)) b.1)) (set_same (views old t) x v.0 v.1) (keeps_refl t old) f in
    subst (λ z. Commanded u depth w (worlds.placed (config u depth) w t x node) old z [] text told) (sym (set_same disks (first_of t + x) b.0 b.1)) placed
