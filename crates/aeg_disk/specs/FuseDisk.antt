-- A disk whose calls all fail from some call on, as its callers see it.
use Rattle.std.specs.Prelude.{ℕ}
use Rattle.aeg_disk.specs.declared.fuse.FuseDisk.{FuseDisk}

-- the calls that it still passes on
abbrev pub passes_left : {D : _} → {g : _} → FuseDisk D g → ℕ
passes_left f = f.left
