use Rattle.node_log.specs.Views.{MayWrite}
use Rattle.public_calls.proofs.middle_nodes.takes_all.Given as goal

abbrev pub invariant-loop-i : goal.invariant-loop-i
invariant-loop-i g l = MayWrite l.node.node (g.D.Disk.state l.disk)
