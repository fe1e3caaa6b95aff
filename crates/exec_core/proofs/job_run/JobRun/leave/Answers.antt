use Rattle.std.proofs.Common.{rules, ◌≡◌, ◌<◌, ◌≤◌, ◌∙◌, ap, sym, subst, length, [], false}
use Rattle.std.specs.Prelude.{IfOk}
use Rattle.aeg_base.specs.Store.{Store}
use Rattle.exec_model.specs.Jobs.{Run, run_job}
use Rattle.exec_core.specs.Jobs.{IsDone, IsRan}
use Rattle.exec_core.specs.Underway.{RunView}
use Rattle.exec_core.proofs.Groups.{lists_all}
use Rattle.exec_core.proofs.Going.{task_steps}
use Rattle.exec_core.proofs.Underway.{over_run, task_is_run, some_left}
use Rattle.exec_core.proofs.job_run.JobRun.leave.Goals as goal

pub returns-then-work-len-clause-ran : goal.returns-then-work-len-clause-ran
returns-then-work-len-clause-ran g c =
    let begins = g.S.Service.beginning c.self.inside.svc.now in
    let segs = c.self.inside.segs.now in
    let s = c.new-batch.result.start in
    let batch = c.by_schedule-done.new.batch in
    let back : s ≡ c.self.inside.work.cells.start = c.new-batch.ensures.start ∙ c.give_up-then-work-len.ensures in
    let now : c.new-batch.result.now ≡ s = c.new-batch.ensures.now ∙ sym c.new-batch.ensures.start in
    let run = run_job begins segs s [] in
    let done : IfOk c.by_schedule-done.result (IsDone batch.start batch.now run) =
    subst (λ (x : Store). IfOk c.by_schedule-done.result (IsDone x batch.now run)) (sym c.by_schedule-done.ensures.start)
    (subst (λ (x : Store). IfOk c.by_schedule-done.result (IsDone s batch.now (run_job begins segs x []))) now c.by_schedule-done.ensures.done) in
    let ran : IfOk c.leave.result (IsRan s c.leave.new.store.map run) =
    subst (λ (x : Store). IfOk c.leave.result (IsRan x c.leave.new.store.map run)) c.by_schedule-done.ensures.start (c.leave.ensures.ran run done) in
    task_is_run begins g.T.Task.begins segs g.T.Task.segs s g.T.Task.start c.leave.new.store.map [] c.leave.result
    c.self.invariant.service c.self.invariant.job (back ∙ c.self.invariant.start_is) ran

pub returns-then-work-len-clause-afresh : goal.returns-then-work-len-clause-afresh
returns-then-work-len-clause-afresh g c some =
    let begins = g.S.Service.beginning c.self.inside.svc.now in
    let segs = c.self.inside.segs.now in
    let s = c.new-batch.result.start in
    let batch = c.by_schedule-done.new.batch in
    let back : s ≡ c.self.inside.work.cells.start = c.new-batch.ensures.start ∙ c.give_up-then-work-len.ensures in
    let now : c.new-batch.result.now ≡ s = c.new-batch.ensures.now ∙ sym c.new-batch.ensures.start in
    let run = run_job begins segs s [] in
    let done : IfOk c.by_schedule-done.result (IsDone batch.start batch.now run) =
    subst (λ (x : Store). IfOk c.by_schedule-done.result (IsDone x batch.now run)) (sym c.by_schedule-done.ensures.start)
    (subst (λ (x : Store). IfOk c.by_schedule-done.result (IsDone s batch.now (run_job begins segs x []))) now c.by_schedule-done.ensures.done) in
    let ran : IfOk c.leave.result (IsRan s c.leave.new.store.map run) =
    subst (λ (x : Store). IfOk c.leave.result (IsRan x c.leave.new.store.map run)) c.by_schedule-done.ensures.start (c.leave.ensures.ran run done) in
    task_steps begins g.T.Task.begins segs g.T.Task.segs s g.T.Task.start c.leave.new.store.map [] c.leave.result
    c.self.invariant.service c.self.invariant.job (back ∙ c.self.invariant.start_is) ran

pub returns-then-work-len-clause-steps : goal.returns-then-work-len-clause-steps
returns-then-work-len-clause-steps g c none =
    let w = c.self.inside.work in
    let lt : w.at < length w.groups.items = search rules in
    absurd (some_left w.groups.items w.at lt (ap (λ (r : RunView). r.left) c.self.view_is ∙ none))

pub returns-clause-afresh : goal.returns-clause-afresh
returns-clause-afresh g c some =
    let w = c.self.inside.work in
    let far : length w.groups.items ≤ w.at = search rules in
    absurd (some (ap (λ (r : RunView). r.left) (sym c.self.view_is) ∙ lists_all w.groups.items w.at far))

pub returns-clause-ran : goal.returns-clause-ran
returns-clause-ran g c =
    let plan = g.S.Prog.Program.plan in
    let begins = g.S.Service.beginning c.self.inside.svc.now in
    let segs = c.self.inside.segs.now in
    let w = c.self.inside.work in
    let t = c.leave-2.new.store.map in
    let far : length w.groups.items ≤ w.at = search rules in
    let no : c.self.inside.short ≡ false = search rules in
    let run = run_job begins segs w.cells.start w.m.steps.items in
    let done : IfOk c.done_of-done.result (IsDone w.cells.start w.cells.now run) =
    subst (λ (r : Run). IfOk c.done_of-done.result (IsDone w.cells.start w.cells.now r))
    (over_run plan begins segs w.cells.start w (c.self.invariant.reached no) far) c.done_of-done.ensures in
    task_is_run begins g.T.Task.begins segs g.T.Task.segs w.cells.start g.T.Task.start t w.m.steps.items c.leave-2.result
    c.self.invariant.service c.self.invariant.job c.self.invariant.start_is (c.leave-2.ensures.ran run done)
