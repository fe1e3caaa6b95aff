-- A disk in memory, as its callers see it.
use Rattle.aeg_disk.specs.MemoryLaws.{lawful_memory}
use Rattle.aeg_disk.specs.Disk.{DiskState, Lawful}
use Rattle.aeg_disk.specs.Memory.{memory_state}
use Rattle.aeg_disk.specs.declared.memory.MemDisk.{MemDisk}

abbrev pub state_of : MemDisk → DiskState
state_of d = memory_state d.bytes.items d.tape d.faults d.stopped d.armed d.keep

pub lawful_disk : (d : MemDisk) → Lawful (state_of d)
lawful_disk d = lawful_memory d.bytes.items d.tape d.faults d.stopped d.armed d.keep d.logged
