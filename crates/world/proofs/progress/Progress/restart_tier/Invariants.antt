use Rattle.std.proofs.Common.{◌≡◌, []}
use Rattle.std.specs.Prelude.{map}
use Rattle.world.specs.Going.{Restarted}
use Rattle.world.proofs.Events.RestartsInTurn.{first_nodes}
use Rattle.world.proofs.progress.Progress.restart_tier.Given as goal

-- the first nodes of the tier were restarted
abbrev pub invariant-loop-index : goal.invariant-loop-index
invariant-loop-index g l = record {
  restarted : Restarted l.initial.self l.self (map g.D.Disk.state l.initial.disks) (map g.D.Disk.state l.disks)
      l.initial.lines l.lines (first_nodes l.index l.tier);
  none : l.self.parts.soup ≡ [];
}
