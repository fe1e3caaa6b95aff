use Rattle.std.proofs.Common.{◌-◌, ◌≤◌, length}
use Rattle.world.proofs.Power.BlankDisks.{AllBlank}
use Rattle.world.proofs.node_disks.memory_disks.Given as goal

abbrev pub invariant-disks : goal.invariant-disks
invariant-disks l = AllBlank l.disks.items × (length l.disks.items ≤ 15)

abbrev pub decreases-disks : goal.decreases-disks
decreases-disks l = 15 - length l.disks.items
