use Rattle.std.proofs.Common.{◌≡◌, ◌+◌, ◌∙◌, ap, sym, subst, inl, not, length, [], ◌∷◌, ◌++◌, arith}
use Rattle.exec_model.specs.Serial.{serial, serial_end}
use Rattle.exec_model.specs.Jobs.{plan_at}
use Rattle.exec_model.specs.Machine.{any_running, or_ended}
use Rattle.svc_api.specs.Orders.{mem}
use Rattle.exec_core.specs.States.{progress_of, owner_of, state_of, whole_of, went_on, Goes}
use Rattle.exec_core.proofs.Loops.{all_mem, can_still}
use Rattle.exec_core.proofs.Turns.{turn-went, turn-busy, rerun-ended, rerun-outside, apart}
use Rattle.exec_core.proofs.rounds.turn.Goals as goal

pub step-requires-clause-slots : goal.step-requires-clause-slots
step-requires-clause-slots g c = all_mem (length c.args.m.now.slots.items) c.args.group.now c.args.i c.requires.group.members c.requires.member

pub again-requires : goal.again-requires
again-requires g c = record {
  group = can_still c.step.new.m c.requires.group c.in_ok-step.ensures.slots
      (let e = c.in_ok-step.ensures.redo in let h = c.requires.group.redo in omega arith);
}

pub returns-in-Moved-clause-turn : goal.returns-in-Moved-clause-turn
returns-in-Moved-clause-turn g c t e =
    let plan = g.S.Prog.Program.plan in
    let plans = plan_at (g.S.Service.beginning c.args.svc.now) c.args.segs.now in
    let old = whole_of plan c.args.m.now (g.C.Cells.store c.args.cells.now) (g.C.Logged.base c.args.cells.now) t in
    let went : state_of plan c.step.new.m (g.C.Cells.store c.step.new.cells)
    (record t { base = g.C.Logged.base c.args.cells.now; redo = c.args.m.now.redo }) ≡ went_on plans old c.args.i =
    c.in_ok-step.ensures.went c.in-Moved.is plans (record t { base = g.C.Logged.base c.args.cells.now; redo = c.args.m.now.redo }) in
    let same : whole_of plan c.step.new.m (g.C.Cells.store c.step.new.cells) (g.C.Logged.base c.step.new.cells) t ≡ went_on plans old c.args.i =
    (λ n. state_of plan c.step.new.m (g.C.Cells.store c.step.new.cells)
    (record t { base = c.in_ok-step.ensures.base n; redo = c.in_ok-step.ensures.redo n })) ∙ went in
    turn-went plans old (whole_of plan c.step.new.m (g.C.Cells.store c.step.new.cells)
    (g.C.Logged.base c.step.new.cells) t) c.args.i (not c.any_running.result) c.in_ok-step.field-0 _ _ _
    (ap (mem c.args.i) e ∙ c.requires.member) c.in_ok-step.ensures.goes c.in-Moved.is same
    (ap not (c.any_running.ensures ∙ ap (λ xs. any_running (progress_of plan xs) c.args.group.now) c.deref.ensures.value
    ∙ ap (any_running (progress_of plan c.step.new.m.slots.items)) (sym e)))

pub returns-in_ok-again-in-Busy-clause-turn : goal.returns-in_ok-again-in-Busy-clause-turn
returns-in_ok-again-in-Busy-clause-turn g c t e =
    let plan = g.S.Prog.Program.plan in
    let plans = plan_at (g.S.Service.beginning c.args.svc.now) c.args.segs.now in
    let old = whole_of plan c.args.m.now (g.C.Cells.store c.args.cells.now) (g.C.Logged.base c.args.cells.now) t in
    let group = c.args.group.now in
    let base = c.in_ok-step.ensures.base in
    let stays = c.in_ok-step.ensures.stays (inl c.in-Busy.is) in
    let goes = subst (λ w. Goes c.args.i (progress_of plan c.args.m.now.slots.items c.args.i)
    (owner_of c.args.m.now.owner.items) (g.C.Cells.store c.args.cells.now) w
    (progress_of plan c.step.new.m.slots.items c.args.i) (owner_of c.step.new.m.owner.items)
    (g.C.Cells.store c.step.new.cells)) c.in-Busy.is c.in_ok-step.ensures.goes in
    turn-busy plans old c.args.i _ _ _ (progress_of plan c.step.new.m.slots.items)
    (g.C.Cells.store c.again.new.cells) (g.C.Logged.base c.again.new.cells) (owner_of c.again.new.m.owner.items)
    (progress_of plan c.again.new.m.slots.items) c.again.new.m.done.items c.again.new.m.steps.items c.again.new.m.redo
    (ap (mem c.args.i) e ∙ c.requires.member) goes c.in_ok-step.ensures.others
    (c.in_ok-again-in-Busy.ensures.store ∙ ap (λ b. serial plans b group) base ∙ ap (serial plans (g.C.Logged.base c.args.cells.now)) (sym e))
    c.in_ok-again-in-Busy.ensures.owner
    (λ j. c.in_ok-again-in-Busy.ensures.ends j
    ∙ ap (λ b. or_ended (serial_end plans b group j) (progress_of plan c.step.new.m.slots.items j)) base
    ∙ ap (λ x. or_ended (serial_end plans (g.C.Logged.base c.args.cells.now) x j)
    (progress_of plan c.step.new.m.slots.items j)) (sym e))
    (c.in_ok-again-in-Busy.ensures.done ∙ sym e)
    (c.in_ok-again-in-Busy.ensures.steps ∙ ap (λ v. v.items ++ c.args.i ∷ []) stays.1)
    (c.in_ok-again-in-Busy.ensures.redo ∙ ap (λ r. r + 1) c.in_ok-step.ensures.redo)

pub returns-in_ok-again-in-Busy-clause-ended : goal.returns-in_ok-again-in-Busy-clause-ended
returns-in_ok-again-in-Busy-clause-ended g c e =
    let plan = g.S.Prog.Program.plan in
    rerun-ended (plan_at (g.S.Service.beginning c.args.svc.now) c.args.segs.now) (g.C.Logged.base c.step.new.cells)
    c.args.group.now (progress_of plan c.step.new.m.slots.items) (progress_of plan c.again.new.m.slots.items)
    c.in_ok-again-in-Busy.ensures.ends

pub returns-in_ok-again-in-Busy-clause-outside : goal.returns-in_ok-again-in-Busy-clause-outside
returns-in_ok-again-in-Busy-clause-outside g c j n =
    let plan = g.S.Prog.Program.plan in
    c.in_ok-again-in-Busy.ensures.ends j
    ∙ rerun-outside (plan_at (g.S.Service.beginning c.args.svc.now) c.args.segs.now) (g.C.Logged.base c.step.new.cells)
    c.args.group.now (progress_of plan c.step.new.m.slots.items) j n
    ∙ c.in_ok-step.ensures.others j (λ e. apart c.args.group.now c.args.i j c.requires.member n e)
