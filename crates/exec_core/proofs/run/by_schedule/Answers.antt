use Rattle.std.proofs.Common.{◌≡◌, ◌∙◌, sym, ap, subst, length}
use Rattle.std.specs.Prelude.{IfOk}
use Rattle.exec_model.specs.Machine.{concat}
use Rattle.exec_model.specs.Groups.{times, AreFull, mix}
use Rattle.exec_model.specs.Jobs.{Run, locks_at}
use Rattle.exec_model.proofs.Mixer.{AreFull-mix, times-mix}
use Rattle.key_mixer.specs.Lists.{lists_of}
use Rattle.exec_core.specs.Jobs.{IsDone, run_in_groups}
use Rattle.exec_core.proofs.Whole.{mixed_groups, mixed_run}
use Rattle.exec_core.proofs.run.by_schedule.Goals as goal

pub in_groups-requires : goal.in_groups-requires
in_groups-requires g c =
    let begins = g.S.Service.beginning c.args.svc.now in
    let segs = c.args.segs.now in
    let locks = locks_at begins segs in
    let e = c.in_ok-slots.ensures in
    let mixed : lists_of c.deref-2.result.now ≡ mix locks (length segs) = mixed_groups begins segs _ _ _ _ e.sets
    e.locks c.deref.ensures.value c.in_ok-groups.ensures c.deref-2.ensures.value in
    record {
      begins = c.requires.begins;
      few = c.requires.few;
      slots = e.slots;
      full = subst AreFull (sym mixed) (AreFull-mix locks (length segs));
      order = λ i. ap (λ gs. times i (concat gs)) mixed ∙ times-mix locks (length segs) i;
    }

pub returns-clause-done : goal.returns-clause-done
returns-clause-done g c =
    let begins = g.S.Service.beginning c.args.svc.now in
    let segs = c.args.segs.now in
    let e = c.in_ok-slots.ensures in
    let mixed : lists_of c.deref-2.result.now ≡ mix (locks_at begins segs) (length segs) = mixed_groups begins segs _ _
    _ _ e.sets e.locks c.deref.ensures.value c.in_ok-groups.ensures c.deref-2.ensures.value in
    subst (λ (r : Run). IfOk c.in_groups.result (IsDone c.args.batch.now.start c.in_groups.new.batch.now r))
    (ap (λ gs. run_in_groups begins segs gs c.args.batch.now.now c.args.schedule.now) mixed ∙ mixed_run begins segs c.args.batch.now.now c.args.schedule.now)
    c.in_groups.ensures.done
