use Rattle.std.proofs.Common.{◌≡◌, ◌∙◌, ap, refl, arith}
use Rattle.key_mixer.specs.Lists.{lists_of}
use Rattle.exec_model.specs.Jobs.{groups_of}
use Rattle.exec_core.specs.Batches.{BatchView}
use Rattle.exec_core.proofs.Whole.{IsFresh, fresh, mixed_groups}
use Rattle.exec_core.proofs.Underway.{first_state}
use Rattle.exec_core.proofs.work.begin_work.Goals as goal

pub returns-clause-reached : goal.returns-clause-reached
returns-clause-reached g c =
    let plan = g.S.Prog.Program.plan in
    let begins = g.S.Service.beginning c.args.svc.now in
    let segs = c.args.segs.now in
    let s = c.args.store.now.map in
    let e = c.in_ok-m.ensures in
    let f : IsFresh plan begins segs c.in_ok-m.m = fresh plan begins segs c.in_ok-slots.slots.items c.in_ok-m.m
    c.in_ok-slots.ensures.slots e.slots e.free e.steps e.redo in
    let mixed : lists_of c.in_ok-groups.groups.items ≡ groups_of begins segs = mixed_groups begins segs _ _ _ _
    c.in_ok-slots.ensures.sets c.in_ok-slots.ensures.locks c.deref.ensures.value c.in_ok-groups.ensures refl in
    let now : c.reserve.new.self.now ≡ s = ap (λ (b : BatchView). b.now) c.reserve.ensures.same
    ∙ c.new-cells.ensures.now ∙ ap (λ x. x.map) c.replace.ensures.value in
    record {
      groups = mixed;
      slots = f.slots;
      locks = e.locks;
      redo = (let a = f.redo in omega arith);
      state = first_state plan begins segs s
          (record { m = c.in_ok-m.m; cells = c.mark.new.self; groups = c.in_ok-groups.groups; at = 0; order = c.new-3.result })
          f e.done (c.mark.ensures.store ∙ now) (c.mark.ensures.base ∙ now) refl c.new-3.ensures.items mixed;
    }
