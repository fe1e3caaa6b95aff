use Rattle.std.proofs.Common.{ℕ, List, map, Bool, Ok, sym, subst}
use Rattle.std.specs.Prelude.{Option, Some, None}
use Rattle.aeg_disk.specs.Disk.{DiskState}
use Rattle.aeg_disk.specs.MemDisk.{state_of}
use Rattle.run_model.specs.Resolving.{Place}
use Rattle.run_model.specs.declared.line.Event.{Event}
use Rattle.run_model.specs.declared.trace.TraceEvent.{TraceEvent}
use Rattle.world.specs.Disks.{AreDisks}
use Rattle.world.specs.Run.{Run, world_of, turn_of, AppliesBy}
use Rattle.public_calls.proofs.played_scripts.play.Goals as goal

-- after a call the disks are those of the world then
disks_after : (old new : Run) (disks_before disks_now : List DiskState) (before now : List ℕ) (line : Event)
    (place : Place) (due : Option TraceEvent) (again : Bool) → AreDisks (world_of old) disks_before
    → AppliesBy old new disks_before disks_now before now line place due (Ok again) → AreDisks (world_of new) disks_now
disks_after old new disks_before disks_now before now line place None again d a =
    let P : Run → Type 0 = λ r. AreDisks (world_of r) disks_now in
    let Q : List DiskState → Type 0 = λ z. AreDisks (world_of old) z in
    subst P (sym a.0) (subst Q (sym a.1) d)
disks_after old new disks_before disks_now before now line place (Some due) again d a = a.1.disks

pub returns-then-not-branch-clause-disks : goal.returns-then-not-branch-clause-disks
returns-then-not-branch-clause-disks c =
    disks_after c.calls.world c.apply.new.self (map state_of c.calls.disks) (map state_of c.apply.new.disks)
    c.calls.lines c.apply.new.lines c.args.line.now (turn_of c.calls.world c.args.line.now).place
    (turn_of c.calls.world c.args.line.now).event c.in_ok-apply.field-0 c.calls.invariant.1 c.in_ok-apply.ensures.applies
