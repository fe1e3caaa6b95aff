use Rattle.std.proofs.Common.{◌≡◌, ◌-◌, drop, length, map}
use Rattle.aegean_main.specs.Playing.{Stands}
use Rattle.aegean_main.proofs.playing.play_lines.Given as goal

abbrev pub invariant-lines : goal.invariant-lines
invariant-lines g l =
    Stands l.script l.world (drop l.number l.script.events) (map g.D.Disk.state l.fn.disks) (map g.D.Disk.state l.disks)
    (g.K.Sink.taken l.fn.out) (g.K.Sink.taken l.out)
    × (g.K.Sink.faults l.out ≡ g.K.Sink.faults l.fn.out)

abbrev pub decreases-lines : goal.decreases-lines
decreases-lines g l = length l.script.events - l.number
