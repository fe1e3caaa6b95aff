use Rattle.std.proofs.Common.{rules, ◌≡◌, ◌+◌, ◌∙◌, ◌⊎◌, sym, ap, refl, subst, drop, ◌∷◌, [], ◌++◌, false, true, arith}
use Rattle.std.proofs.lemmas.Grind.{common_steps}
use Rattle.std.proofs.lemmas.Bool.{and_parts}
use Rattle.exec_model.specs.Jobs.{plan_at}
use Rattle.exec_model.specs.Machine.{State, is_running, next, turn}
use Rattle.exec_model.proofs.Executor.{turn-less}
use Rattle.key_mixer.specs.Lists.{lists_of}
use Rattle.exec_core.specs.States.{whole_of, going, progress_of}
use Rattle.exec_core.proofs.Finishing.{some_state}
use Rattle.exec_core.proofs.Going.{not_so, none_on, on_here}
use Rattle.exec_core.proofs.Noting.{turn_steps, turn_most}
use Rattle.exec_core.proofs.Underway.{group_at, apart, can_turn, turned, turned_over}
use Rattle.exec_core.proofs.work.turn_of.Goals as goal

pub turn-requires : goal.turn-requires
turn-requires g c =
    let can = can_turn g.S.Prog.Program.plan (g.S.Service.beginning c.args.svc.now) c.args.segs.now
    c.args.w.now.cells.start c.args.w.now c.index.result.now c.as_slice-group.result.now c.args.i
    c.requires.begins c.requires.few c.requires.reached (search rules) c.index.ensures c.as_slice-group.ensures.value (search rules) in
    record { group = can.group; member = can.member; locks = c.requires.reached.locks; small = can.small }

pub index-requires-2 : goal.index-requires-2
index-requires-2 g c =
    let can = can_turn g.S.Prog.Program.plan (g.S.Service.beginning c.args.svc.now) c.args.segs.now
    c.args.w.now.cells.start c.args.w.now c.index.result.now c.as_slice-group.result.now c.args.i
    c.requires.begins c.requires.few c.requires.reached (search rules) c.index.ensures c.as_slice-group.ensures.value (search rules) in
    let a = can.slot in let b = c.in_ok-over.ensures.slots in let d = c.from.ensures in omega arith

pub returns-then-not-contains-clause-made : goal.returns-then-not-contains-clause-made
returns-then-not-contains-clause-made g c can_go =
    let w = c.args.w.now in
    let xs = c.as_slice-group.result.now in
    let here = group_at (g.S.Service.beginning c.args.svc.now) c.args.segs.now w.groups.items w.at c.index.result.now xs
    c.requires.few c.requires.reached.groups (search rules) c.index.ensures c.as_slice-group.ensures.value in
    absurd (apart g.S.Prog.Program.plan w xs (drop (w.at + 1) (lists_of w.groups.items)) c.args.i here.here (search rules) can_go)

pub returns-then-not-contains-clause-runs : goal.returns-then-not-contains-clause-runs
returns-then-not-contains-clause-runs g c =
    let w = c.args.w.now in
    let xs = c.as_slice-group.result.now in
    let here = group_at (g.S.Service.beginning c.args.svc.now) c.args.segs.now w.groups.items w.at c.index.result.now xs
    c.requires.few c.requires.reached.groups (search rules) c.index.ensures c.as_slice-group.ensures.value in
    not_so _ (apart g.S.Prog.Program.plan w xs (drop (w.at + 1) (lists_of w.groups.items)) c.args.i here.here (search rules))

pub returns-then-over : goal.returns-then-over
returns-then-over g c =
    let plan = g.S.Prog.Program.plan in
    let plans = plan_at (g.S.Service.beginning c.args.svc.now) c.args.segs.now in
    let w = c.args.w.now in
    let xs = c.as_slice-group.result.now in
    let can = can_turn plan (g.S.Service.beginning c.args.svc.now) c.args.segs.now w.cells.start w c.index.result.now xs
    c.args.i c.requires.begins c.requires.few c.requires.reached (search rules) c.index.ensures
    c.as_slice-group.ensures.value (search rules) in
    let v = record w { m = c.turn.new.m; cells = c.turn.new.cells } in
    let yes : c.in_ok-over.over ≡ true = search rules in
    let goes : (t : State) → t.group ≡ xs → next (whole_of plan v.m v.cells.now v.cells.base t)
    ≡ turn plans (whole_of plan w.m w.cells.now w.cells.base t) c.args.i =
    λ t e. ap (λ o. going plan v.m v.cells.now v.cells.base o t) (sym yes) ∙ c.in_ok-over.ensures.turn t e in
    let u = whole_of plan w.m w.cells.now w.cells.base (some_state xs) in
    let e = c.in_ok-next_group.ensures in
    record {
      reached = turned_over plan (g.S.Service.beginning c.args.svc.now) c.args.segs.now w.cells.start w v
          c.next_group.new.w c.args.i xs (drop (w.at + 1) (lists_of w.groups.items))
          c.requires.reached can.at refl refl refl c.in_ok-over.ensures.slots c.in_ok-over.ensures.locks c.in_ok-over.ensures.redo_most goes
          e.state e.at e.machine.0 e.machine.1 e.machine.2 e.groups;
      on = λ on. cc;
      runs = none_on plan v c.next_group.new.w xs c.args.i can.member (c.in_ok-over.ensures.ended yes) e.machine.0;
      made = λ can_go. ap (λ v. v.items) e.machine.3 ∙ ap (λ (t : State). t.steps) (goes (some_state xs) refl)
          ∙ turn_steps plans u c.args.i can.member (and_parts _ _ can_go).1;
      noted = subst (λ ys. (ys ≡ w.m.steps.items) ⊎ (ys ≡ w.m.steps.items ++ c.args.i ∷ []))
          (sym (ap (λ v. v.items) e.machine.3 ∙ ap (λ (t : State). t.steps) (goes (some_state xs) refl)))
          (turn_most plans u c.args.i can.member);
      groups = e.groups;
      start = e.start ∙ c.in_ok-over.ensures.start;
    }

pub returns : goal.returns
returns g c =
    let plan = g.S.Prog.Program.plan in
    let plans = plan_at (g.S.Service.beginning c.args.svc.now) c.args.segs.now in
    let w = c.args.w.now in
    let xs = c.as_slice-group.result.now in
    let can = can_turn plan (g.S.Service.beginning c.args.svc.now) c.args.segs.now w.cells.start w c.index.result.now xs
    c.args.i c.requires.begins c.requires.few c.requires.reached (search rules) c.index.ensures
    c.as_slice-group.ensures.value (search rules) in
    let v = record w { m = c.turn.new.m; cells = c.turn.new.cells } in
    let no : c.in_ok-over.over ≡ false = search rules in
    let goes : (t : State) → t.group ≡ xs → whole_of plan v.m v.cells.now v.cells.base t ≡ turn plans (whole_of plan w.m w.cells.now w.cells.base t) c.args.i =
    λ t e. ap (λ o. going plan v.m v.cells.now v.cells.base o t) (sym no) ∙ c.in_ok-over.ensures.turn t e in
    let u = whole_of plan w.m w.cells.now w.cells.base (some_state xs) in
    let here = goes (some_state xs) refl in
    record {
      reached = turned plan (g.S.Service.beginning c.args.svc.now) c.args.segs.now w.cells.start w v c.args.i xs (drop (w.at + 1) (lists_of w.groups.items))
          c.requires.reached can.at refl refl refl c.in_ok-over.ensures.slots c.in_ok-over.ensures.locks (c.in_ok-over.ensures.redo no) goes;
      on = λ on.
          let after : is_running (progress_of plan v.m.slots.items c.args.i) ≡ true = grind (arith, common_steps) in
          let before : is_running (progress_of plan w.m.slots.items c.args.i) ≡ true = turn-less plans u c.args.i
          c.args.i (sym (ap (λ (t : State). is_running (t.progress c.args.i)) here) ∙ after) in
          (ap (λ (t : State). t.steps) here ∙ turn_steps plans u c.args.i can.member before, refl);
      runs = on_here plan v xs (drop (w.at + 1) (lists_of w.groups.items)) c.args.i c.is_running.result can.at can.member (grind (arith, common_steps));
      made = λ can_go. ap (λ (t : State). t.steps) here ∙ turn_steps plans u c.args.i can.member (and_parts _ _ can_go).1;
      noted = subst (λ ys. (ys ≡ w.m.steps.items) ⊎ (ys ≡ w.m.steps.items ++ c.args.i ∷ []))
          (sym (ap (λ (t : State). t.steps) here)) (turn_most plans u c.args.i can.member);
      groups = refl;
      start = c.in_ok-over.ensures.start;
    }
