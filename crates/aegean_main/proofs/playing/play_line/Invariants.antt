use Rattle.std.proofs.Common.{◌≡◌, ◌-◌, ℕ, List, ◌∷◌, Option, map}
use Rattle.aeg_base.specs.declared.limits.TheConstants.{PACKETS}
use Rattle.aeg_disk.specs.Disk.{DiskState}
use Rattle.run_model.specs.Script.{Numbered, Script}
use Rattle.world.specs.Disks.{AreDisks}
use Rattle.world.specs.Run.{world_of}
use Rattle.aegean_main.specs.Playing.{Stands}
use Rattle.aegean_main.proofs.playing.play_line.Given as goal

abbrev pub invariant-calls : goal.invariant-calls
invariant-calls g l =
    (l.world.u ≡ l.fn.world.u)
    × AreDisks (world_of l.world) (map g.D.Disk.state l.disks)
    × ((script : Script) (number : ℕ) (rest : List Numbered) (first : List DiskState) (start : Option (List ℕ))
    → Stands script l.fn.world ((number, l.line) ∷ rest) first (map g.D.Disk.state l.fn.disks) start
    (g.K.Sink.taken l.fn.out)
    → Stands script l.world ((number, l.line) ∷ rest) first (map g.D.Disk.state l.disks) start (g.K.Sink.taken l.out))
    × (g.K.Sink.faults l.out ≡ g.K.Sink.faults l.fn.out)

abbrev pub decreases-calls : goal.decreases-calls
decreases-calls g l = PACKETS - l.world.place.cursor
