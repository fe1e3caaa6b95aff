use Rattle.std.proofs.Common.{rules, ◌≡◌, ◌+◌, ◌<◌, ◌∙◌, sym, ap, length, drop, false, arith}
use Rattle.std.proofs.lemmas.List.{drop_more}
use Rattle.exec_model.specs.Machine.{turns}
use Rattle.exec_model.specs.Jobs.{plan_at}
use Rattle.exec_core.specs.States.{whole_of, going}
use Rattle.exec_core.proofs.Loops.{can_still, keeps_on}
use Rattle.exec_core.proofs.rounds.use_schedule.Goals as goal

pub entry-requires-clause-group : goal.entry-requires-clause-group
entry-requires-clause-group g c =
    let kept = c.entries.invariant.kept in
    can_still c.entries.m c.requires.group kept.slots (let over0 : c.entries.over
    ≡ false = search rules in let e = kept.redo over0 in let h = c.requires.group.redo in omega arith)

pub entries-preserved : goal.entries-preserved
entries-preserved g c =
    let plan = g.S.Prog.Program.plan in
    let plans = plan_at (g.S.Service.beginning c.args.svc.now) c.args.segs.now in
    let sch = c.args.schedule.now in
    let used = c.entries.used in
    let s = g.C.Cells.store c.entries.cells in
    let b = g.C.Logged.base c.entries.cells in
    let over0 : c.entries.over ≡ false = search rules in
    let lt : used < length sch = search rules in
    let kept = c.entries.invariant.kept in
    let e = c.in_ok-over.ensures in
    record {
      turns = λ t same.
          ap (λ u. turns plans u (drop (used + 1) sch)) (e.turn t same)
          ∙ sym (ap (turns plans (whole_of plan c.entries.m s b t)) (drop_more sch used 0 lt))
          ∙ ap (λ o. turns plans (going plan c.entries.m s b o t) (drop used sch)) (sym over0)
          ∙ c.entries.invariant.turns t same;
      used = omega arith;
      kept = keeps_on c.entry.new.m c.in_ok-over.over kept over0 e.slots e.locks e.outside e.redo_most e.over e.redo;
      start = e.start ∙ c.entries.invariant.start;
    }
