use Rattle.std.proofs.Common.{◌≡◌, ℕ, drop}
use Rattle.exec_model.specs.Serial.{serial, serial_end}
use Rattle.exec_model.specs.Jobs.{plan_at}
use Rattle.exec_model.specs.Machine.{or_ended}
use Rattle.exec_core.specs.States.{progress_of}
use Rattle.exec_core.proofs.segments.rerun.Given as goal

abbrev pub invariant-loop-i : goal.invariant-loop-i
invariant-loop-i g l = record {
  store : serial (plan_at (g.S.Service.beginning l.svc) l.segs) (g.C.Cells.store l.cells) (drop l.i-index l.group)
      ≡ serial (plan_at (g.S.Service.beginning l.svc) l.segs) (g.C.Cells.store l.fn.cells) l.group;
  ends : (j : ℕ) → or_ended
      (serial_end (plan_at (g.S.Service.beginning l.svc) l.segs) (g.C.Cells.store l.cells) (drop l.i-index l.group) j)
      (progress_of g.S.Prog.Program.plan l.slots j)
      ≡ or_ended (serial_end (plan_at (g.S.Service.beginning l.svc) l.segs) (g.C.Cells.store l.fn.cells) l.group j)
      (progress_of g.S.Prog.Program.plan l.fn.slots j);
  start : g.C.Cells.start l.cells ≡ g.C.Cells.start l.fn.cells;
}
