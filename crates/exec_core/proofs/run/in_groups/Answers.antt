use Rattle.std.proofs.Common.{◌≡◌, ◌∙◌, ap, subst, length}
use Rattle.std.specs.Prelude.{IfOk}
use Rattle.key_mixer.specs.Lists.{lists_of}
use Rattle.exec_model.specs.Machine.{turns, complete}
use Rattle.aeg_base.specs.Store.{Store}
use Rattle.exec_model.specs.Jobs.{Run, plan_at}
use Rattle.exec_core.specs.Batches.{BatchView}
use Rattle.exec_core.specs.Jobs.{run_in_groups, IsDone}
use Rattle.exec_core.specs.States.{progress_of, begun}
use Rattle.exec_core.specs.Underway.{left_by}
use Rattle.exec_core.proofs.Whole.{fresh, are_ready, Comes, comes, left_is}
use Rattle.exec_core.proofs.run.in_groups.Goals as goal

pub run_groups-requires : goal.run_groups-requires
run_groups-requires g c =
    let e = c.in_ok-m.ensures in
    let f = fresh _ _ _ _ c.in_ok-m.m c.requires.slots e.slots e.free e.steps e.redo in
    let r = are_ready _ _ _ c.in_ok-m.m c.args.groups.now c.requires.few f c.requires.full c.requires.order in
    record {
      begins = c.requires.begins;
      here = f.slots;
      groups = r.members;
      full = c.requires.full;
      once = r.once;
      locks = e.locks;
      redo = r.redo;
      runs = r.runs;
    }

pub returns-clause-done : goal.returns-clause-done
returns-clause-done g c =
    let plan = g.S.Prog.Program.plan in
    let begins = g.S.Service.beginning c.args.svc.now in
    let plans = plan_at begins c.args.segs.now in
    let e = c.in_ok-m.ensures in
    let f = fresh plan begins c.args.segs.now c.args.slots.items c.in_ok-m.m c.requires.slots e.slots e.free e.steps e.redo in
    let order = c.new-order.ensures.items in
    let z : Comes (run_in_groups begins c.args.segs.now (lists_of c.args.groups.now) c.reserve.new.self.now
    c.args.schedule.now) (length c.args.segs.now) c.run_groups.new.cells.now c.run_groups.new.order.items
    c.run_groups.new.m.steps.items c.run_groups.new.m.redo (progress_of plan c.run_groups.new.m.slots.items) =
    comes plan begins c.args.segs.now c.in_ok-m.m c.run_groups.new.m c.reserve.new.self.now c.run_groups.new.cells.now
    c.run_groups.new.order.items (lists_of c.args.groups.now) c.args.schedule.now f c.requires.full c.requires.order
    (λ t. c.in_ok-run_groups.ensures.run t
    ∙ ap (λ xs. complete plans
    (turns plans (begun plan c.in_ok-m.m c.reserve.new.self.now xs (lists_of c.args.groups.now) t)
    c.args.schedule.now)) order) in
    let long : length c.run_groups.new.m.slots.items ≡ length c.args.segs.now = c.in_ok-run_groups.ensures.slots ∙ f.slots in
    let same : left_by plan c.run_groups.new.m c.run_groups.new.order.items c.run_groups.new.cells.now
    ≡ run_in_groups begins c.args.segs.now (lists_of c.args.groups.now) c.reserve.new.self.now c.args.schedule.now =
    left_is plan c.run_groups.new.m c.run_groups.new.order.items c.run_groups.new.cells.now _ (length c.args.segs.now) long z in
    let start : c.run_groups.new.cells.start ≡ c.args.batch.now.start = c.in_ok-run_groups.ensures.start
    ∙ ap (λ (b : BatchView). b.start) c.in_ok-reserve.ensures.same in
    subst (λ (b : BatchView). IfOk c.done_of.result
    (IsDone c.args.batch.now.start c.run_groups.new.cells.now
    (run_in_groups begins c.args.segs.now (lists_of c.args.groups.now) b.now c.args.schedule.now))) c.in_ok-reserve.ensures.same
    (subst (λ (r : Run). IfOk c.done_of.result (IsDone c.args.batch.now.start c.run_groups.new.cells.now r)) same
    (subst (λ (s : Store). IfOk c.done_of.result
    (IsDone s c.run_groups.new.cells.now
    (left_by plan c.run_groups.new.m c.run_groups.new.order.items c.run_groups.new.cells.now))) start c.done_of.ensures))
