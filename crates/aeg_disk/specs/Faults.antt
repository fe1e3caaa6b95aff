-- A disk that met more faults than another.
use Rattle.std.specs.Prelude.{ℕ, ◌+◌, ◌-◌, ◌^◌, min}
use Rattle.aeg_disk.specs.Disk.{DiskState}

-- the disk with so many faults more
abbrev pub with_faults : DiskState → ℕ → DiskState
with_faults s failed = record s { faults = min (s.faults + failed) (2 ^ 64 - 1) }
