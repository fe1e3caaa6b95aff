use Rattle.std.proofs.Common.{◌≡◌, ℕ, ◌+◌, ◌*◌, ◌≤◌, length, drop, true}
use Rattle.exec_model.specs.Jobs.{plan_at}
use Rattle.exec_model.specs.Machine.{State, is_running, concat, turns, complete}
use Rattle.svc_api.specs.Orders.{mem}
use Rattle.key_mixer.specs.Lists.{lists_of}
use Rattle.exec_core.specs.States.{progress_of, begun}
use Rattle.exec_core.proofs.rounds.run_groups.Given as goal

abbrev pub invariant-groups : goal.invariant-groups
invariant-groups g l = record {
  same : (t : State) →
      complete (plan_at (g.S.Service.beginning l.svc) l.segs)
      (turns (plan_at (g.S.Service.beginning l.svc) l.segs)
      (begun g.S.Prog.Program.plan l.m (g.C.Cells.store l.cells) l.order.items
      (drop l.group-index (lists_of l.groups)) t) (drop l.at l.schedule))
      ≡ complete (plan_at (g.S.Service.beginning l.svc) l.segs)
      (turns (plan_at (g.S.Service.beginning l.svc) l.segs)
      (begun g.S.Prog.Program.plan l.fn.m (g.C.Cells.store l.fn.cells) l.fn.order.items (lists_of l.groups) t) l.schedule);
  at : l.at ≤ length l.schedule;
  slots : length l.m.slots.items ≡ length l.fn.m.slots.items;
  locks : length l.m.owner.items ≡ 256;
  redo : l.m.redo ≤ l.fn.m.redo + 2 * l.group-index;
  runs : (j : ℕ) → mem j (concat (drop l.group-index (lists_of l.groups))) ≡ true → is_running (progress_of g.S.Prog.Program.plan l.m.slots.items j) ≡ true;
  start : g.C.Cells.start l.cells ≡ g.C.Cells.start l.fn.cells;
}
