-- A node crashes: all but its disk is lost.
use Rattle.std.proofs.Common.{◌≡◌, ℕ, ◌+◌, ◌*◌, ◌<◌, ◌≤◌, true, false, List, [], ◌∷◌, refl, sym, ap, ◌∙◌, subst, arith}
use Rattle.aeg_base.specs.declared.names.Tier.{Tier}
use Rattle.aeg_base.specs.declared.names.NodeId.{NodeId}
use Rattle.aeg_disk.specs.Disk.{DiskState}
use Rattle.fact_journal.specs.Standing.{StandsFor}
use Rattle.log_model.specs.Nodes.{Mode, Node as NodeOf, stands, crashed}
use Rattle.log_model.specs.Nodes.Mode.{Up, Down, Gone}
use Rattle.log_values.specs.declared.fact.Fact.{Fact}
use Rattle.run_model.specs.World as worlds
use Rattle.run_model.specs.Resolving as resolving
use Rattle.run_model.specs.Text as texts
use Rattle.run_model.specs.BookingRuns.{config, BookingWorld}
use Rattle.world.specs.declared.nodes.all_nodes.Nodes.{Nodes}
use Rattle.world.specs.Calling.{absent_text}
use Rattle.world.specs.Disks.{IsDiskOf, AreDisks, first_of}
use Rattle.world.specs.Parts.{NodePart, goes_down, view_with, shape, open_in}
use Rattle.world.specs.NodeLists.{ChangedIn, condition_in, condition_at, view_up, up_in}
use Rattle.world.specs.Standing.{mode_by, state_at, IsDoubted, IsNode, IsAt, AreNodes}
use Rattle.world.proofs.Calls.OfOneTier.{changed, up_is}
use Rattle.world.proofs.Calls.InWorlds.{up_placed, sure_alone, up_stand}
use Rattle.world.proofs.Calls.ByAnswer.{down_node}
use Rattle.world.proofs.Calls.OnDisks.{up_state}
use Rattle.world.proofs.Calls.ArmedDisks.{disk_of}
use Rattle.world.proofs.Calls.CommandsInWorlds.{Commanded}
use Rattle.world.proofs.Calls.AtLists.{set_same}
use Rattle.world.proofs.Power.PutInPlace.{node_placed, node_kept}
use Rattle.world.proofs.Calls.NodesThere.{node_at, node_up, node_condition}

-- A NODE THAT IS UP

crashed_is : {S T : Type 0} (t : Tier) (whole : S → T) (open_of : S → ℕ) (node : NodeOf T Fact) (part : NodePart S)
    (disk : DiskState) (s : S) → IsNode t whole open_of node part → IsDiskOf node disk → part.mode ≡ Up s
    → IsNode t whole open_of (crashed node node.mode) (goes_down part) × IsDiskOf (crashed node node.mode) disk × (node.mode ≡ Up (whole s))
crashed_is {S} {T} t whole open_of node part disk s k d e =
    let p = up_placed t whole open_of node part s k e in
    let up : node.mode ≡ Up (whole s) = k.mode ∙ ap (mode_by whole) e in
    let is : crashed node node.mode ≡ stands Down node.records = ap (crashed node) up in (
      subst (λ z. IsNode t whole open_of z (goes_down part)) (sym is)
          (down_node t whole open_of node.records [] (goes_down part) refl (λ f. p.0)
          (subst (λ b. IsDoubted b node.records []) (sym p.1) refl) (k.within.0, tt) (up_stand t whole open_of node part k)),
      subst (λ z. IsDiskOf z disk) (sym is)
          (record {
            rest = d.rest;
            lists = subst (λ z. StandsFor (node.records ∷ z) disk) (sure_alone t whole open_of node part k p.1) d.lists;
            ready = tt;
          }),
      up,
    )

pub crash_by : (u depth : ℕ) (w : BookingWorld) (old new : Nodes) (n : NodeId) (disks : List DiskState) (t : Tier) → u ≤ 2 → AreNodes u depth w old
    → AreDisks w disks → n.index < 2 * u + 1 → up_in old t n.index ≡ true → ChangedIn old new t n.index (λ S. goes_down {S = S})
    → Commanded u depth w (worlds.crashes (config u depth) w t n.index) new disks [] (texts.crash_text (texts.node_name n) (w.nodes t n.index).mode) []
crash_by u depth w old new n disks t few k d l c h =
    let x = n.index in
    let change = changed t old new x (λ S. goes_down {S = S}) h in
    let m = node_at u depth w old t x k l in
    let b = disk_of w u x t disks few d l in
    let i = m.2 in
    let s = up_state m.0.part (sym (ap view_up m.1) ∙ sym (up_is old t x) ∙ c) in
    let r = crashed_is t (state_at u depth t x) (open_in (shape t)) (w.nodes t x) m.0.part b.0 s.0 i.part (d.at t x b.0 (omega (arith, few, l)) b.1) s.1 in
    let to : IsAt u depth t x (crashed (w.nodes t x) (w.nodes t x).mode) (view_with goes_down m.0) =
    record { faults = i.faults; tier = i.tier; deep = i.deep; me = i.me; part = r.0 } in
    subst (λ z. Commanded u depth w (worlds.crashes (config u depth) w t x) new z [] (texts.crash_text (texts.node_name n) (w.nodes t x).mode) [])
    (sym (set_same disks (first_of t + x) b.0 b.1))
    (node_placed u depth w old new t x disks b.0 (crashed (w.nodes t x) (w.nodes t x).mode) (view_with goes_down m.0) _ [] few l k d to r.1 (change.0 m.0 m.1)
    change.1 (ap (texts.crash_text (texts.node_name n)) r.2))

-- A NODE THAT ISN'T UP

crashed_same : {S : Type 0} (node : NodeOf S Fact) (m : Mode S) → resolving.is_up m ≡ false → crashed node m ≡ node
crashed_same node (Up s) e = absurd (cc)
crashed_same node Down e = refl
crashed_same node Gone e = refl

crash_told : {S : Type 0} (n : NodeId) (m : Mode S) → texts.crash_text (texts.node_name n) m ≡ absent_text n (condition_in m)
crash_told n (Up s) = refl
crash_told n Down = refl
crash_told n Gone = refl

pub crash_rests : (u depth : ℕ) (w : BookingWorld) (old : Nodes) (n : NodeId) (disks : List DiskState) (t : Tier) → u ≤ 2 → AreNodes u depth w old
    → AreDisks w disks → n.index < 2 * u + 1 → up_in old t n.index ≡ false
    → Commanded u depth w (worlds.crashes (config u depth) w t n.index) old disks [] (texts.crash_text (texts.node_name n) (w.nodes t n.index).mode)
    (absent_text n (condition_at old t n.index))
crash_rests u depth w old n disks t few k d l e =
    node_kept u depth w old t n.index disks (crashed (w.nodes t n.index) (w.nodes t n.index).mode) _ (absent_text n (condition_at old t n.index)) few l k d
    (crashed_same (w.nodes t n.index) (w.nodes t n.index).mode (sym (node_up u depth w old t n.index k l) ∙ e))
    (crash_told n (w.nodes t n.index).mode ∙ ap (absent_text n) (sym (node_condition u depth w old t n.index k l)))
