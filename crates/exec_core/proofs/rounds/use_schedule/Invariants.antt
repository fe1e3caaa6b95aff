use Rattle.std.proofs.Common.{◌≡◌, ◌-◌, ◌≤◌, length, drop}
use Rattle.exec_model.specs.Jobs.{plan_at}
use Rattle.exec_model.specs.Machine.{State, turns}
use Rattle.exec_core.specs.States.{whole_of, going}
use Rattle.exec_core.proofs.Loops.{Keeps}
use Rattle.exec_core.proofs.rounds.use_schedule.Given as goal

abbrev pub invariant-entries : goal.invariant-entries
invariant-entries g l = record {
  turns : (t : State) → t.group ≡ l.group →
      turns (plan_at (g.S.Service.beginning l.svc) l.segs)
      (going g.S.Prog.Program.plan l.m (g.C.Cells.store l.cells) (g.C.Logged.base l.cells) l.over t) (drop l.used l.schedule)
      ≡ turns (plan_at (g.S.Service.beginning l.svc) l.segs)
      (whole_of g.S.Prog.Program.plan l.fn.m (g.C.Cells.store l.fn.cells) (g.C.Logged.base l.fn.cells) t) l.schedule;
  used : l.used ≤ length l.schedule;
  kept : Keeps g.S.Prog.Program.plan l.group l.fn.m l.m l.over;
  start : g.C.Cells.start l.cells ≡ g.C.Cells.start l.fn.cells;
}

abbrev pub decreases-entries : goal.decreases-entries
decreases-entries g l = length l.schedule - l.used
