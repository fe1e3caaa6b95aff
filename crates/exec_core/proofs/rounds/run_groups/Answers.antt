use Rattle.std.proofs.Common.{rules, ◌≡◌, ◌+◌, ◌<◌, ◌∙◌, ap, sym, subst, refl, length, take, drop, ◌-◌, [], ◌++◌, arith}
use Rattle.std.proofs.lemmas.List.{drop-drop}
use Rattle.std.proofs.lemmas.Grind.{common_steps}
use Rattle.std.specs.List.{All}
use Rattle.exec_model.specs.Jobs.{plan_at}
use Rattle.exec_model.specs.Machine.{is_running, next, turns, complete}
use Rattle.key_mixer.specs.Lists.{lists_of}
use Rattle.exec_core.specs.States.{progress_of, begun, whole_of}
use Rattle.exec_core.proofs.Groups.{at_group, run-more, lists_all, run-over}
use Rattle.exec_core.proofs.rounds.run_groups.Goals as goal

pub run_group-requires : goal.run_group-requires
run_group-requires g c =
    let xs = c.deref.result.now in
    let lt : c.groups.group-index < length c.args.groups.now = search rules in
    let a = at_group (length c.args.m.now.slots.items) (progress_of g.S.Prog.Program.plan c.groups.m.slots.items)
    c.args.groups.now c.groups.group-index c.group-item.result xs lt c.group-item.is c.deref.ensures.value
    c.requires.groups c.requires.full c.requires.once c.groups.invariant.runs in
    record {
      group = record {
        begin_well = c.requires.begins;
        here = subst (λ n. All (λ j. j < n) xs) c.requires.here a.members;
        members = subst (λ n. All (λ j. j < n) xs) (sym c.groups.invariant.slots) a.members;
        once = a.once;
        redo = (let r = c.groups.invariant.redo in let f = c.requires.redo in omega arith);
      };
      numbers = a.numbers;
      locks = c.groups.invariant.locks;
      runs = a.runs;
    }

pub groups-preserved : goal.groups-preserved
groups-preserved g c =
    let plan = g.S.Prog.Program.plan in
    let plans = plan_at (g.S.Service.beginning c.args.svc.now) c.args.segs.now in
    let k = c.groups.group-index in
    let xs = c.deref.result.now in
    let lt : k < length c.args.groups.now = search rules in
    let a = at_group (length c.args.m.now.slots.items) (progress_of plan c.groups.m.slots.items) c.args.groups.now k
    c.group-item.result xs lt c.group-item.is c.deref.ensures.value
    c.requires.groups c.requires.full c.requires.once c.groups.invariant.runs in
    let used = c.in_ok-at.field-0 in
    let sch = c.args.schedule.now in
    let cut : take (length sch - c.groups.at) (drop c.groups.at sch) ≡ drop c.groups.at sch = grind (arith, common_steps) in
    let eo : c.extend_from_slice.new.self.items ≡ c.groups.order.items ++ c.run_group.new.m.done.items = grind (arith, common_steps) in
    record {
      same = λ t.
          run-more plan plans (lists_of c.args.groups.now) k xs c.groups.m (record c.groups.m { done = c.clear.new.self }) c.run_group.new.m
          (g.C.Cells.store c.groups.cells) (g.C.Cells.store c.mark.new.self) (g.C.Logged.base c.mark.new.self)
          (g.C.Cells.store c.run_group.new.cells) (g.C.Logged.base c.run_group.new.cells)
          c.groups.order.items c.extend_from_slice.new.self.items (drop c.groups.at sch) (drop (c.groups.at + used) sch) t
          a.here refl refl c.clear.ensures.items refl refl c.mark.ensures.store c.mark.ensures.base eo
          (λ t e.
          ap (λ xs. complete plans
          (turns plans (next
          (whole_of plan c.run_group.new.m (g.C.Cells.store c.run_group.new.cells)
          (g.C.Logged.base c.run_group.new.cells) t)) xs)) (sym (drop-drop used c.groups.at sch) ∙ ap (drop used) (sym cut))
          ∙ c.in_ok-at.ensures.run t e
          ∙ ap (λ xs. complete plans
          (turns plans (whole_of plan (record c.groups.m { done = c.clear.new.self })
          (g.C.Cells.store c.mark.new.self) (g.C.Logged.base c.mark.new.self) t) xs)) cut)
          ∙ c.groups.invariant.same t;
      at = search rules;
      slots = c.in_ok-at.ensures.slots ∙ c.groups.invariant.slots;
      locks = c.in_ok-at.ensures.locks;
      redo = (let x = c.in_ok-at.ensures.redo_most in let y = c.groups.invariant.redo in omega arith);
      runs = λ j h. ap is_running (c.in_ok-at.ensures.outside j (a.apart j h)) ∙ a.later j h;
      start = c.in_ok-at.ensures.start ∙ c.mark.ensures.start ∙ c.groups.invariant.start;
    }

pub returns : goal.returns
returns g c = record {
  run = λ t.
      let plan = g.S.Prog.Program.plan in
      let plans = plan_at (g.S.Service.beginning c.args.svc.now) c.args.segs.now in
      let rest = drop c.groups.at c.args.schedule.now in
      run-over plans (begun plan c.groups.m (g.C.Cells.store c.groups.cells) c.groups.order.items [] t) rest refl refl
      ∙ ap (λ x. complete plans
      (turns plans (begun plan c.groups.m (g.C.Cells.store c.groups.cells) c.groups.order.items x t) rest))
      (sym (lists_all c.args.groups.now c.groups.group-index c.groups-test.false))
      ∙ c.groups.invariant.same t;
  slots = c.groups.invariant.slots;
  start = c.groups.invariant.start;
}
