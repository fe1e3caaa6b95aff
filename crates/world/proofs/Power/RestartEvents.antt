-- A restart as a whole event.
use Rattle.std.proofs.Common.{◌≡◌, ℕ, ◌≤◌, true, List, [], ◌++◌, refl, sym, ap, ◌∙◌, subst, length, append-nil, arith, Some}
use Rattle.std.specs.Prelude.{slice_get, slice_set}
use Rattle.std.specs.declared.result.Result.{Result}
use Rattle.aeg_base.specs.declared.limits.TheConstants.{PACKETS}
use Rattle.aeg_base.specs.declared.names.NodeId.{NodeId}
use Rattle.aeg_base.specs.declared.names.End.{End}
use Rattle.aeg_disk.specs.Disk.{DiskState, Rose, Blank}
use Rattle.tier_model.specs.declared.turn.Fault.{Fault}
use Rattle.run_model.specs.declared.trace.Found.{Found}
use Rattle.run_model.specs.declared.trace.Found.TheVariants.{Reads, Fault as Fails}
use Rattle.run_model.specs.declared.trace.TraceEvent.{TraceEvent}
use Rattle.run_model.specs.declared.trace.TraceEvent.TheVariants.{Restart}
use Rattle.run_model.specs.World.{happens}
use Rattle.run_model.specs.Resolving.{Finds, others_at}
use Rattle.run_model.specs.Text.{own_text}
use Rattle.run_model.specs.BookingRuns.{config, BookingWorld}
use Rattle.world.specs.declared.nodes.all_nodes.Nodes.{Nodes}
use Rattle.world.specs.declared.parts.Parts.{Parts}
use Rattle.world.specs.Calling.{parts_after, found_of}
use Rattle.world.specs.Disks.{AreDisks, NoneFell, is_faulty, place_of}
use Rattle.world.specs.Telling.{told_restart}
use Rattle.world.specs.Standing.{Shows, Makes, MakesAny}
use Rattle.world.proofs.Calls.CommandsInWorlds.{Commanded}
use Rattle.world.proofs.Power.CountsOfFaults.{falls_set}
use Rattle.world.proofs.Calls.OnDisks.{get_here}
use Rattle.world.proofs.Events.WholeEvents.{made}
use Rattle.world.proofs.Power.Restarts.{IsAmong, is_failing}

pub zero_least : (w : BookingWorld) (n : NodeId) → 0 ≤ length (others_at w n.tier n.index)
zero_least w n = omega arith

-- with the disks by another name
pub made_on : (old new : Parts) (before after left : List DiskState) (lines : List ℕ) (event : TraceEvent) (u depth : ℕ)
    (w : BookingWorld) → left ≡ after → Makes new before after lines lines event u depth w
    → Makes new before left lines lines event u depth w
made_on old new before after left lines event u depth w e h = subst (λ z. Makes new before z lines lines event u depth w) (sym e) h

finds_by : (w : BookingWorld) (n : NodeId) (found : Found) → IsAmong (others_at w n.tier n.index) found → Finds w (Restart n found)
finds_by w n (Reads k) h = h
finds_by w n Fails h = tt

faulty_is : (n : NodeId) (found : Found) → is_faulty (Restart n found) ≡ true → is_failing found ≡ true
faulty_is n (Reads k) e = e
faulty_is n Fails e = e

pub rising : (old new : Parts) (nodes : Nodes) (n : NodeId) (disks disks_after : List DiskState)
    (disk disk_after : DiskState) (result : Result ℕ Fault) (found : Found) (before now : List ℕ)
    → slice_get disks (place_of n) ≡ Some disk → disks_after ≡ slice_set disks (place_of n) disk_after → found ≡ found_of result
    → new ≡ parts_after old nodes [] → length new.soup ≤ PACKETS → now ≡ before ++ told_restart n result
    → ((u depth : ℕ) (w : BookingWorld) → Shows u depth w old → AreDisks w disks
    → Commanded u depth w (happens (config u depth) w (Restart n (found_of result))) nodes
    (slice_set disks (place_of n) disk_after) [] (own_text (config u depth) w (Restart n (found_of result)))
    (told_restart n result) × IsAmong (others_at w n.tier n.index) (found_of result)
    × (is_failing (found_of result) ≡ true → Rose disk.faults disk_after.faults) × (disk.faults ≤ disk_after.faults))
    → MakesAny old new disks disks_after before now (Restart n found)
rising old new nodes n disks disks_after disk disk_after result found before now here left is e within told h =
    subst (λ z. MakesAny old new disks disks_after before now (Restart n z)) (sym is)
    (subst (λ z. MakesAny old new disks z before now (Restart n (found_of result))) (sym left)
    (λ u depth w s d. let r = h u depth w s d in made u depth w old new nodes [] disks
    (slice_set disks (place_of n) disk_after) (Restart n (found_of result)) (told_restart n result) before now s
    within r.0 e told
    (λ f. (
      place_of n,
      refl,
      (
        disk,
        disk_after,
        here,
        get_here disks (place_of n) disk disk_after here,
        r.2 (faulty_is n (found_of result) f),
      ),
    ))
    (falls_set disks (slice_set disks (place_of n) disk_after) (place_of n) disk disk_after here refl r.3)
    (finds_by w n (found_of result) r.1)))

-- nothing was sent
pub same_soup : (old new : Parts) (nodes : Nodes) (out : List (End × List ℕ)) → new ≡ parts_after old nodes out → out ≡ [] → new.soup ≡ old.soup
same_soup old new nodes out e f = ap (λ (p : Parts). p.soup) e ∙ ap (λ z. old.soup ++ z) f ∙ append-nil old.soup

-- a disk that is erased keeps its count
pub wiped_falls : (disks : List DiskState) (at : ℕ) (disk disk_after : DiskState) → slice_get disks at ≡ Some disk
    → Blank disk disk_after → NoneFell disks (slice_set disks at disk_after)
wiped_falls disks at disk disk_after e h = falls_set disks (slice_set disks at disk_after) at disk disk_after e refl (omega (arith, h.faults))
