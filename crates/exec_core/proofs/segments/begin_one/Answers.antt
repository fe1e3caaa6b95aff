use Rattle.std.proofs.Common.{◌≡◌, ◌∙◌, sym, ap, subst, get_or}
use Rattle.svc_api.specs.Segment.{Begins}
use Rattle.exec_model.specs.declared.job.Seg.{Seg}
use Rattle.exec_model.specs.Jobs.{plan_in}
use Rattle.exec_core.proofs.Begun.{plan_at-seg, locks_at-seg, begins_plan, begins_locks}
use Rattle.exec_core.proofs.segments.begin_one.Goals as goal

pub returns : goal.returns
returns g c =
    let begins = g.S.Service.beginning c.args.svc.now in
    let x : Seg = c.index-segs-from.result in
    let begun = begins x.who x.body x.stage in
    let here : x ≡ get_or c.args.segs.now c.args.i x = c.index-segs-from.is ∙ ap (λ n. get_or c.args.segs.now n x) c.from.ensures in
    let h = subst (Begins g.S.Prog.Program.plan g.S.Prog.Program.budget g.S.Prog.Program.locks begun) c.in-Some.is c.in_ok-prog.ensures in
    record {
      plan = begins_plan g.S.Prog.Program.plan g.S.Prog.Program.budget g.S.Prog.Program.locks begun c.in-Some.prog h c.widened.result
          ∙ ap (plan_in begun) c.widened.ensures
          ∙ sym (plan_at-seg begins c.args.segs.now c.args.i x c.requires.here here);
      locks = begins_locks g.S.Prog.Program.plan g.S.Prog.Program.budget g.S.Prog.Program.locks begun c.in-Some.prog h
          ∙ sym (locks_at-seg begins c.args.segs.now c.args.i x c.requires.here here);
    }
