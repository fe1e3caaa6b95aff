use Rattle.std.proofs.Common.{◌≡◌, map}
use Rattle.aeg_disk.specs.MemDisk.{state_of}
use Rattle.world.specs.Disks.{AreDisks}
use Rattle.world.specs.Run.{world_of}
use Rattle.public_calls.proofs.played_scripts.play_lines.Given as goal

abbrev pub invariant-lines : goal.invariant-lines
invariant-lines l = (l.world.u ≡ l.script.u) × AreDisks (world_of l.world) (map state_of l.disks)
