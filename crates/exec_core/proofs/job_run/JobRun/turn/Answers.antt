use Rattle.std.proofs.Common.{rules, ◌++◌, ◌∷◌, [], ◌∙◌, sym, ap, inr}
use Rattle.exec_core.specs.Underway.{RunView}
use Rattle.exec_core.proofs.Going.{on_after}
use Rattle.exec_core.proofs.Underway.{steps_on}
use Rattle.exec_core.proofs.job_run.JobRun.turn.Goals as goal

pub returns-in-Ok-clause-made : goal.returns-in-Ok-clause-made
returns-in-Ok-clause-made g c fine can_go =
    let r = c.self.inside in
    let i = c.args.i in
    let k = c.self.invariant in
    let can = steps_on g.S.Prog.Program.plan (g.S.Service.beginning r.svc.now) g.T.Task.begins r.segs.now g.T.Task.segs
    r.work.cells.start g.T.Task.start r.work c.args.self.now.steps i
    k.service k.job k.start_is (sym (ap (λ (v : RunView). v.steps) c.self.view_is)) (k.reached (search rules)) can_go in
    inr (c.in-Ok.ensures.made can ∙ ap (λ (v : RunView). v.steps ++ i ∷ []) c.self.view_is)

pub returns-in-Ok-clause-runs : goal.returns-in-Ok-clause-runs
returns-in-Ok-clause-runs g c fine =
    let r = c.self.inside in
    let k = c.self.invariant in
    c.in-Ok.ensures.runs
    ∙ on_after g.S.Prog.Program.plan (g.S.Service.beginning r.svc.now) g.T.Task.begins r.segs.now g.T.Task.segs
    r.work.cells.start g.T.Task.start c.turn_of.new.w c.args.i
    k.service k.job k.start_is c.in-Ok.ensures.reached
