-- Stops of a disk that a line asks for.
use Rattle.std.specs.Prelude.{◌≤◌, Bool, true, false, Option, Some, None}
use Rattle.aeg_disk.specs.Disk.{DiskState}
use Rattle.tier_model.specs.declared.turn.Turn.{Turn}
use Rattle.tier_model.specs.declared.turn.Fault.{Fault as NodeFault}
use Rattle.tier_model.specs.declared.turn.Fault.TheVariants as faults
use Rattle.std.specs.declared.result.Result.{Result}
use Rattle.std.specs.declared.result.Result.TheVariants.{Ok, Err}
use Rattle.run_model.specs.declared.trace.Fared.{Fared}
use Rattle.run_model.specs.declared.trace.Fared.TheVariants.{Fine, Cut, Fault}
use Rattle.world.specs.declared.parts.arming.StopAt.{StopAt}

-- one of the four writes and syncs of an event
abbrev pub CanStop : Option StopAt → Type 0
CanStop None = Unit {0}
CanStop (Some s) = (1 ≤ s.nth) × (s.nth ≤ 4)

-- how the event fares, where the disk does as it is asked
abbrev pub asked_of : Option StopAt → Fared
asked_of None = Fine
asked_of (Some s) = Cut s.nth s.keep

abbrev pub armed_with : Option StopAt → DiskState → DiskState
armed_with None disk = disk
armed_with (Some s) disk = record disk { armed = s.nth; keep = s.keep }

-- how an event fared that was asked to stop like that: the disk failed and no armed stop was met, or it went as asked
abbrev pub fared_by : Option StopAt → Bool → Result Turn NodeFault → Fared
fared_by stop false (Err faults.Disk) = Fault
fared_by stop true (Err faults.Disk) = asked_of stop
fared_by stop met (Err (faults.JournalFull size)) = asked_of stop
fared_by stop met (Err faults.Memory) = asked_of stop
fared_by stop met (Err (faults.BadRecord at)) = asked_of stop
fared_by stop met (Ok turn) = asked_of stop

-- the power is put back
abbrev pub at_rest : DiskState → DiskState
at_rest disk = record disk { stopped = false; armed = 0 }
