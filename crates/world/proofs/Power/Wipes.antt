-- A node is wiped: it is gone for good, and its disk is blank.
use Rattle.std.proofs.Common.{◌≡◌, ℕ, ◌+◌, ◌*◌, ◌<◌, ◌≤◌, true, false, List, [], ◌∷◌, refl, sym, ap, ◌∙◌, subst, arith, Some}
use Rattle.std.specs.Prelude.{slice_get, slice_set}
use Rattle.aeg_base.specs.declared.limits.TheConstants.{JOURNAL_BYTES}
use Rattle.aeg_base.specs.declared.names.Tier.{Tier}
use Rattle.aeg_base.specs.declared.names.NodeId.{NodeId}
use Rattle.aeg_disk.specs.Disk.{DiskState, Blank}
use Rattle.fact_journal.proofs.Standing.{erased_stands}
use Rattle.log_model.specs.Nodes.{Mode, Node as NodeOf, stands}
use Rattle.log_model.specs.Nodes.Mode.{Up, Down, Gone}
use Rattle.log_values.specs.declared.fact.Fact.{Fact}
use Rattle.run_model.specs.World as worlds
use Rattle.run_model.specs.Text as texts
use Rattle.run_model.specs.BookingRuns.{config, BookingWorld}
use Rattle.world.specs.declared.nodes.all_nodes.Nodes.{Nodes}
use Rattle.world.specs.Calling.{is_gone_in}
use Rattle.world.specs.Disks.{IsDiskOf, AreDisks, first_of}
use Rattle.world.specs.Parts.{NodePart, AllStand, is_wiped, view_with, shape, open_in}
use Rattle.world.specs.NodeLists.{ChangedIn, condition_in, condition_at, view_condition}
use Rattle.world.specs.Standing.{mode_by, state_at, IsPlaced, IsNode, IsAt, AreNodes}
use Rattle.world.proofs.Calls.InWorlds.{sure_alone, stand_alone}
use Rattle.world.proofs.Calls.OfOneTier.{changed, condition_is}
use Rattle.world.proofs.Calls.CommandsInWorlds.{Commanded}
use Rattle.world.proofs.Power.PutInPlace.{node_placed, node_kept}
use Rattle.world.proofs.Calls.NodesThere.{node_at, node_condition}

-- A NODE THAT ISN'T GONE YET

pub none_stand : (t : Tier) → AllStand t ([] ∷ [])
none_stand t = stand_alone t [] tt tt

pub blank_within : 1 ≤ JOURNAL_BYTES
blank_within = omega arith

wiped_is : {S T : Type 0} (t : Tier) (whole : S → T) (open_of : S → ℕ) (part : NodePart S)
    → IsNode {S = S} {T = T} t whole open_of (stands Gone []) (is_wiped part)
wiped_is t whole open_of part = record { mode = refl; placed = (refl, refl); doubted = refl; within = (blank_within, tt); stand = none_stand t; opened = tt }

wiped_disk : {T : Type 0} (a b : DiskState) (node : NodeOf T Fact) → IsDiskOf node a → Blank a b → IsDiskOf {S = T} (stands Gone []) b
wiped_disk a b node k h = record { rest = (h.armed ∙ k.rest.0, h.stopped ∙ k.rest.1); lists = erased_stands a b h k.lists.tells; ready = tt }

wipe_told : {S : Type 0} (n : NodeId) (m : Mode S) → is_gone_in (condition_in m) ≡ false → texts.wipe_text (texts.node_name n) m ≡ []
wipe_told n (Up s) e = refl
wipe_told n Down e = refl
wipe_told n Gone e = absurd (cc)

pub wipe_by : (u depth : ℕ) (w : BookingWorld) (old new : Nodes) (n : NodeId) (disks : List DiskState) (disk disk_after : DiskState) (t : Tier) → u ≤ 2
    → AreNodes u depth w old → AreDisks w disks → n.index < 2 * u + 1 → slice_get disks (first_of t + n.index) ≡ Some disk
    → is_gone_in (condition_at old t n.index) ≡ false → ChangedIn old new t n.index (λ S. is_wiped {S = S}) → Blank disk disk_after
    → Commanded u depth w (worlds.wipes (config u depth) w t n.index) new (slice_set disks (first_of t + n.index) disk_after) []
    (texts.wipe_text (texts.node_name n) (w.nodes t n.index).mode) []
wipe_by u depth w old new n disks disk disk_after t few k d l b c h e =
    let x = n.index in
    let change = changed t old new x (λ S. is_wiped {S = S}) h in
    let m = node_at u depth w old t x k l in
    let i = m.2 in
    let to : IsAt u depth t x (stands Gone []) (view_with is_wiped m.0) =
    record { faults = i.faults; tier = i.tier; deep = i.deep; me = i.me; part = wiped_is t (state_at u depth t x) (open_in (shape t)) m.0.part } in
    node_placed u depth w old new t x disks disk_after (stands Gone []) (view_with is_wiped m.0) _ [] few l k d to
    (wiped_disk disk disk_after (w.nodes t x) (d.at t x disk (omega (arith, few, l)) b) e) (change.0 m.0 m.1) change.1
    (wipe_told n (w.nodes t x).mode (ap is_gone_in (sym (node_condition u depth w old t x k l)) ∙ c))

-- A NODE THAT IS GONE

gone_mode : {S : Type 0} (m : Mode S) → is_gone_in (condition_in m) ≡ true → m ≡ Gone
gone_mode (Up s) e = absurd (cc)
gone_mode Down e = absurd (cc)
gone_mode Gone e = refl

-- it has no records
gone_is : {S T : Type 0} (t : Tier) (whole : S → T) (open_of : S → ℕ) (node : NodeOf T Fact) (part : NodePart S)
    → IsNode t whole open_of node part → is_gone_in (condition_in part.mode) ≡ true → stands Gone [] ≡ node
gone_is {S} {T} t whole open_of node part k e =
    let g : part.mode ≡ Gone = gone_mode part.mode e in
    let p : (part.doubt ≡ false) × (node.records ≡ []) = subst (λ m. IsPlaced m part.place part.doubt node.records) g k.placed in
    let mode : node.mode ≡ Gone = k.mode ∙ ap (mode_by whole) g in
    let alone = sure_alone t whole open_of node part k p.0 in
    (λ i. record { mode = sym mode i; records = sym p.1 i; others = sym alone i })

pub wipe_rests : (u depth : ℕ) (w : BookingWorld) (old : Nodes) (n : NodeId) (disks : List DiskState) (t : Tier) → u ≤ 2 → AreNodes u depth w old
    → AreDisks w disks → n.index < 2 * u + 1 → is_gone_in (condition_at old t n.index) ≡ true
    → Commanded u depth w (worlds.wipes (config u depth) w t n.index) old disks [] (texts.wipe_text (texts.node_name n) (w.nodes t n.index).mode)
    (texts.gone_line (texts.node_name n))
wipe_rests u depth w old n disks t few k d l e =
    let m = node_at u depth w old t n.index k l in
    let gone : is_gone_in (condition_in (w.nodes t n.index).mode) ≡ true = ap is_gone_in (sym (node_condition u depth w old t n.index k l)) ∙ e in
    node_kept u depth w old t n.index disks (stands Gone []) _ (texts.gone_line (texts.node_name n)) few l k d
    (gone_is _ _ _ (w.nodes t n.index) m.0.part m.2.part (ap is_gone_in (sym (ap view_condition m.1) ∙ sym (condition_is old t n.index)) ∙ e))
    (ap (texts.wipe_text (texts.node_name n)) (gone_mode (w.nodes t n.index).mode gone))
