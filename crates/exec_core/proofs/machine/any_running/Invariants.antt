use Rattle.std.proofs.Common.{◌≡◌, drop}
use Rattle.exec_model.specs.Machine.{any_running}
use Rattle.exec_core.specs.States.{progress_of}
use Rattle.exec_core.proofs.machine.any_running.Given as goal

abbrev pub invariant-loop-i : goal.invariant-loop-i
invariant-loop-i g l = any_running (progress_of g.P.Program.plan l.slots) (drop l.i-index l.group) ≡ any_running (progress_of g.P.Program.plan l.slots) l.group
