use Rattle.std.proofs.Common.{◌≡◌, ◌+◌, ◌<◌, length, get_or, cond, true, false}
use Rattle.exec_model.specs.Jobs.{plan_at}
use Rattle.exec_model.specs.Machine.{any_running}
use Rattle.exec_core.specs.States.{progress_of, left_of}
use Rattle.exec_core.proofs.Loops.{Keeps}
use Rattle.exec_core.proofs.Finishing.{Finishes}
use Rattle.exec_core.proofs.rounds.finish_group.Given as goal

abbrev pub invariant-members : goal.invariant-members
invariant-members g l = record {
  so_far : Finishes g.S.Prog.Program.plan (plan_at (g.S.Service.beginning l.svc) l.segs) l.group l.i-index l.fn.m l.m
      (g.C.Cells.store l.fn.cells) (g.C.Logged.base l.fn.cells) (g.C.Cells.store l.cells) (g.C.Logged.base l.cells) l.over;
  kept : Keeps g.S.Prog.Program.plan l.group l.fn.m l.m l.over;
  ended : l.over ≡ true → any_running (progress_of g.S.Prog.Program.plan l.m.slots.items) l.group ≡ false;
  start : g.C.Cells.start l.cells ≡ g.C.Cells.start l.fn.cells;
}

abbrev pub invariant-one : goal.invariant-one
invariant-one g l = record {
  is : l.i ≡ get_or l.group l.i-index 0;
  at : l.i-index < length l.group;
  so_far : Finishes g.S.Prog.Program.plan (plan_at (g.S.Service.beginning l.svc) l.segs) l.group l.i-index l.fn.m l.m
      (g.C.Cells.store l.fn.cells) (g.C.Logged.base l.fn.cells) (g.C.Cells.store l.cells) (g.C.Logged.base l.cells) l.over;
  kept : Keeps g.S.Prog.Program.plan l.group l.fn.m l.m l.over;
  ended : l.over ≡ true → any_running (progress_of g.S.Prog.Program.plan l.m.slots.items) l.group ≡ false;
  start : g.C.Cells.start l.cells ≡ g.C.Cells.start l.fn.cells;
}

abbrev pub decreases-one : goal.decreases-one
decreases-one g l = cond l.over 0 (left_of g.S.Prog.Program.budget l.m.slots.items l.i + 1)
