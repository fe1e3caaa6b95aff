-- A disk in memory that only an armed stop fails, as its callers see it.
use Rattle.aeg_disk.specs.Disk.{DiskState}
use Rattle.aeg_disk.specs.MemDisk.{state_of}
use Rattle.aeg_disk.specs.declared.sure.SureDisk.{SureDisk}

-- the disk without faults
abbrev pub sure_state : SureDisk → DiskState
sure_state d = record (state_of d.disk) { faults = 0 }
