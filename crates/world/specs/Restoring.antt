-- What the errors of a journal are to its node.
use Rattle.std.specs.Prelude.{Bool, true, false}
use Rattle.tier_model.specs.declared.turn.Fault.{Fault}
use Rattle.tier_model.specs.declared.turn.Fault.TheVariants as faults
use Rattle.node_journal.specs.declared.journal.AppendErr.{AppendErr}
use Rattle.node_journal.specs.declared.journal.AppendErr.TheVariants as appends
use Rattle.node_journal.specs.declared.opening.OpenErr.{OpenErr}
use Rattle.node_journal.specs.declared.opening.OpenErr.TheVariants as opens

abbrev pub as_fault : AppendErr → Fault
as_fault appends.Disk = faults.Disk
as_fault (appends.Full size) = faults.JournalFull size
as_fault appends.Memory = faults.Memory

-- the disk may have the record all the same
abbrev pub leaves_doubt : AppendErr → Bool
leaves_doubt appends.Disk = true
leaves_doubt (appends.Full size) = false
leaves_doubt appends.Memory = false

abbrev pub as_opening_fault : OpenErr → Fault
as_opening_fault opens.Disk = faults.Disk
as_opening_fault (opens.BadRecord at) = faults.BadRecord at
as_opening_fault opens.Memory = faults.Memory
