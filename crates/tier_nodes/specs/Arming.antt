-- Stops of a disk that an event asks for, and how the event fares then.
use Rattle.std.specs.Prelude.{◌≡◌, ◌⊎◌, ◌≤◌, Bool, true, false, not, List, Option, Some, None, if◌then◌else◌}
use Rattle.std.specs.declared.result.Result.{Result}
use Rattle.std.specs.declared.result.Result.TheVariants.{Ok, Err}
use Rattle.aeg_disk.specs.Disk.{DiskState}
use Rattle.fact_journal.specs.Calls.{is_past}
use Rattle.log_model.specs.Nodes.{Device}
use Rattle.log_model.specs.Nodes.Device.{CutDrop}
use Rattle.log_values.specs.declared.fact.Fact.{Fact}
use Rattle.tier_model.specs.declared.turn.Fault.{Fault as NodeFault}
use Rattle.tier_model.specs.declared.turn.Fault.TheVariants as faults
use Rattle.run_model.specs.declared.trace.Fared.{Fared}
use Rattle.run_model.specs.declared.trace.Fared.TheVariants.{Fine, Cut, Fault}
use Rattle.run_model.specs.Resolving.{is_fine}
use Rattle.run_model.specs.World.{device_of}
use Rattle.tier_nodes.specs.declared.arming.StopAt.{StopAt}
use Rattle.tier_nodes.specs.Standing.{journal_of}

-- one of the four writes and syncs of an event
abbrev pub CanStop : Option StopAt → Type 0
CanStop None = Unit {0}
CanStop (Some s) = (1 ≤ s.nth) × (s.nth ≤ 4)

-- how the event fares, where the disk does as it is asked
abbrev pub asked_of : Option StopAt → Fared
asked_of None = Fine
asked_of (Some s) = Cut s.nth s.keep

abbrev pub armed_with : Option StopAt → DiskState → DiskState
armed_with None disk = disk
armed_with (Some s) disk = record disk { armed = s.nth; keep = s.keep }

-- the power is put back
abbrev pub at_rest : DiskState → DiskState
at_rest disk = record disk { stopped = false; armed = 0 }

-- how an event fared that was asked to stop like that: the disk failed and no armed stop was met, or it went as asked
abbrev pub fared_by : {A : Type 0} → Option StopAt → Result A NodeFault → Bool → Fared
fared_by stop (Ok turn) met = asked_of stop
fared_by stop (Err faults.Disk) false = Fault
fared_by stop (Err faults.Disk) true = asked_of stop
fared_by stop (Err (faults.JournalFull size)) met = asked_of stop
fared_by stop (Err faults.Memory) met = asked_of stop
fared_by stop (Err (faults.BadRecord at)) met = asked_of stop

-- it fared as was asked, or its disk met a fault
abbrev pub FaresAs : Fared → Fared → Type 0
FaresAs asked fared = (fared ≡ asked) ⊎ (fared ≡ Fault)

abbrev pub is_fault : Fared → Bool
is_fault fared = not (is_fine fared)

-- whether the disk may have the event's record, though the node doesn't know: it failed, and no armed stop was met
abbrev pub doubts : {A : Type 0} → Result A NodeFault → Bool → Bool
doubts (Ok turn) met = false
doubts (Err faults.Disk) met = not met
doubts (Err (faults.JournalFull size)) met = false
doubts (Err faults.Memory) met = false
doubts (Err (faults.BadRecord at)) met = false

-- How a node's device fares whose journal has these records. Facts that would pass the journal's limit are not written,
-- and the node goes down.
abbrev pub fate_of : Fared → List (List Fact) → List Fact → Device
fate_of fared records facts = if is_past (journal_of records) facts then CutDrop else device_of fared
