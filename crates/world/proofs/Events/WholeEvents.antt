-- A whole event at a node: what it makes of the parts and the disks, and what it prints.
use Rattle.std.proofs.Common.{◌≡◌, ℕ, ◌≤◌, true, false, List, [], ◌++◌, refl, sym, ap, ◌∙◌, subst, length, append-nil, inl, Some, Result, Ok, Err}
use Rattle.std.specs.Prelude.{map, slice_get, slice_set}
use Rattle.std.specs.Result.{OnOk}
use Rattle.std.proofs.lemmas.Bool.{cond-true}
use Rattle.aeg_base.specs.declared.limits.TheConstants.{PACKETS}
use Rattle.aeg_base.specs.declared.names.End.{End}
use Rattle.aeg_disk.specs.Disk.{DiskState}
use Rattle.run_model.specs.declared.trace.Fared.{Fared}
use Rattle.run_model.specs.declared.trace.TraceEvent.{TraceEvent}
use Rattle.run_model.specs.World as worlds
use Rattle.run_model.specs.World.{can_fare, happens}
use Rattle.run_model.specs.Resolving.{Finds}
use Rattle.run_model.specs.Runs.{grows}
use Rattle.run_model.specs.Text as texts
use Rattle.run_model.specs.Text.{own_text}
use Rattle.run_model.specs.BookingRuns.{config, BookingWorld}
use Rattle.world.specs.declared.nodes.all_nodes.Nodes.{Nodes}
use Rattle.world.specs.declared.parts.Parts.{Parts}
use Rattle.world.specs.Calling.{parts_after}
use Rattle.world.specs.Disks.{AreDisks, HasCause, NoneFell, is_fault, is_faulty, place_in}
use Rattle.world.specs.Parts.{sealed}
use Rattle.world.specs.Standing.{AreShownOn, Shows, Makes, MakesAny, FaresAs}
use Rattle.world.proofs.Calls.InWorlds.{Faring}
use Rattle.world.proofs.Calls.OnDisks.{get_here}
use Rattle.world.proofs.Power.CountsOfFaults.{falls_none, falls_set}
use Rattle.world.proofs.Events.EventsEnd.{Ended, ends}
use Rattle.world.proofs.Votes.GrownLogs.{grown_disks}
use Rattle.world.proofs.Calls.CommandsInWorlds.{Commanded}

-- an event can fare so
pub if_can : (u depth : ℕ) (w new : BookingWorld) (nodes : Nodes) (disks : List DiskState) (after : List (End × List ℕ))
    (fared : Fared) (text told : List ℕ) → can_fare fared ≡ true → Commanded u depth w new nodes disks after text told
    → Commanded u depth w (worlds.if_can fared new w) nodes disks after (texts.if_can fared text) told
if_can u depth w new nodes disks after fared text told e k =
    subst (λ z. Commanded u depth w z nodes disks after (texts.if_can fared text) told) (sym (cond-true (can_fare fared) new w e))
    (subst (λ z. Commanded u depth w new nodes disks after z told) (sym (cond-true (can_fare fared) text [] e)) k)

-- a fault has its cause
pub fault_cause : (w : BookingWorld) (disks : List DiskState) (x : ℕ) (disk disk_after : DiskState)
    (asked fared : Fared) (event : TraceEvent) → slice_get disks x ≡ Some disk → Faring asked fared disk disk_after
    → place_in w event ≡ Some x → is_faulty event ≡ is_fault fared
    → HasCause w disks (slice_set disks x disk_after) event
fault_cause w disks x disk disk_after asked fared event e h p f g = (x, p, (disk, disk_after, e, get_here disks x disk disk_after e, h.cause (sym f ∙ g)))

-- the event is made
pub made : (u depth : ℕ) (w : BookingWorld) (old new : Parts) (nodes : Nodes) (packets : List (End × List ℕ))
    (disks_before disks_after : List DiskState) (event : TraceEvent) (told before now : List ℕ) → Shows u depth w old
    → length new.soup ≤ PACKETS
    → Commanded u depth w (happens (config u depth) w event) nodes disks_after packets
    (own_text (config u depth) w event) told → new ≡ parts_after old nodes packets → now ≡ before ++ told
    → HasCause w disks_before disks_after event → NoneFell disks_before disks_after → Finds w event
    → Makes new disks_before disks_after before now event u depth w
made u depth w old new nodes packets disks_before disks_after event told before now s within k e t cause later finds =
    let ended : Ended old (parts_after old nodes (map sealed k.packets)) nodes
    (map sealed k.packets) = record {
      size = refl;
      is = refl;
      soup = refl;
      within = subst (λ (p : Parts). length p.soup ≤ PACKETS) (e ∙ ap (parts_after old nodes) k.sends) within;
      watch = refl;
    } in
    let r = ends u depth w (happens (config u depth) w event) old (parts_after old nodes (map sealed k.packets)) nodes
    k.packets s k.leads ended (rw k.clients s.clients) in
    record {
      shows = subst (Shows u depth (grows (config u depth) (happens (config u depth) w event))) (sym (e ∙ ap (parts_after old nodes) k.sends)) r.0;
      disks = grown_disks u depth (happens (config u depth) w event) disks_after k.on;
      cause = cause;
      later = later;
      finds = finds;
      told = t ∙ ap (λ z. before ++ z)
          (sym (ap (λ z. own_text (config u depth) w event ++ z) r.1 ∙ append-nil (own_text (config u depth) w event) ∙ k.text_is));
    }

-- a command or a packet at a node, during which its disk may stop or fail
pub plays_by : (old new : Parts) (nodes : Nodes) (out : List (End × List ℕ)) (disks disks_after : List DiskState)
    (at : ℕ) (disk disk_after : DiskState) (asked by fared : Fared) (told before now : List ℕ) (event : Fared
    → TraceEvent) → AreShownOn old disks
    → ((u depth : ℕ) (w : BookingWorld) → Shows u depth w old → AreDisks w disks
    → Commanded u depth w (happens (config u depth) w (event by)) nodes (slice_set disks at disk_after) out
    (own_text (config u depth) w (event by)) told × Faring asked by disk disk_after × (place_in w (event by) ≡ Some at))
    → is_faulty (event by) ≡ is_fault by → ((w : BookingWorld) → Finds w (event by)) → slice_get disks at ≡ Some disk
    → disks_after ≡ slice_set disks at disk_after → fared ≡ by
    → new ≡ parts_after old nodes out → length new.soup ≤ PACKETS → now ≡ before ++ told → FaresAs asked fared
    × MakesAny old new disks disks_after before now (event fared)
plays_by old new nodes out disks disks_after at disk disk_after asked by fared told before now event shown h faulty finds here left is e within t =
    subst (λ z. FaresAs asked z × MakesAny old new disks disks_after before now (event z)) (sym is)
    (subst (λ z. FaresAs asked by × MakesAny old new disks z before now (event by)) (sym left) (
      (h shown.0 shown.1 shown.2 shown.3 shown.4).1.fares,
      λ u depth w s d. let r = h u depth w s d in made u depth w old new nodes out disks (slice_set disks at disk_after)
          (event by) told before now s within r.0 e t
          (fault_cause w disks at disk disk_after asked by (event by) here r.1 r.2 faulty)
          (falls_set disks (slice_set disks at disk_after) at disk disk_after here refl r.1.later) (finds w),
    ))

-- a command at a node that isn't up
pub plays_idle : (old new : Parts) (disks : List DiskState) (asked fared : Fared) (told before now : List ℕ) (event : Fared → TraceEvent)
    → ((u depth : ℕ) (w : BookingWorld) → Shows u depth w old → AreDisks w disks
    → Commanded u depth w (happens (config u depth) w (event asked)) old.nodes disks []
    (own_text (config u depth) w (event asked)) told)
    → is_faulty (event asked) ≡ false → ((w : BookingWorld) → Finds w (event asked)) → fared ≡ asked
    → new ≡ parts_after old old.nodes [] → length new.soup ≤ PACKETS → now ≡ before ++ told → FaresAs asked fared
    × MakesAny old new disks disks before now (event fared)
plays_idle old new disks asked fared told before now event h faulty finds is e within t =
    subst (λ z. FaresAs asked z × MakesAny old new disks disks before now (event z)) (sym is) (
      inl refl,
      λ u depth w s d. made u depth w old new old.nodes [] disks disks (event asked) told before now s within
          (h u depth w s d) e t (λ f. absurd (cc)) (falls_none disks) (finds w),
    )

-- from what three clauses say
pub on_ok_three : {E : Type 0} (result : Result (Unit {0}) E) {A B C D : Type 0} → OnOk result A → OnOk result B
    → OnOk result C → (A → B → C → D) → OnOk result D
on_ok_three (Ok _) a b c f = f a b c
on_ok_three (Err e) a b c f = tt
