use Rattle.std.proofs.Common.{◌≡◌, ◌∙◌, sym, ap, subst, []}
use Rattle.std.specs.Prelude.{IfOk}
use Rattle.exec_model.specs.Machine.{concat}
use Rattle.exec_model.specs.Groups.{times, AreFull}
use Rattle.exec_model.specs.Jobs.{Run}
use Rattle.key_mixer.specs.Lists.{lists_of}
use Rattle.exec_core.specs.Jobs.{IsDone, run_in_groups}
use Rattle.exec_core.proofs.Orders.{singles, singles_full, singles_all, singles_run}
use Rattle.exec_core.proofs.run.in_order.Goals as goal

pub in_groups-requires-clause-full : goal.in_groups-requires-clause-full
in_groups-requires-clause-full g c =
    let each : lists_of c.deref.result.now ≡ singles c.args.order.now = ap lists_of c.deref.ensures.value ∙ c.in_ok-groups.ensures in
    subst AreFull (sym each) (singles_full c.args.order.now)

pub in_groups-requires-clause-order : goal.in_groups-requires-clause-order
in_groups-requires-clause-order g c i =
    let each : lists_of c.deref.result.now ≡ singles c.args.order.now = ap lists_of c.deref.ensures.value ∙ c.in_ok-groups.ensures in
    ap (λ gs. times i (concat gs)) each ∙ ap (times i) (singles_all c.args.order.now) ∙ c.requires.order i

pub returns-clause-done : goal.returns-clause-done
returns-clause-done g c =
    let begins = g.S.Service.beginning c.args.svc.now in
    let segs = c.args.segs.now in
    let each : lists_of c.deref.result.now ≡ singles c.args.order.now = ap lists_of c.deref.ensures.value ∙ c.in_ok-groups.ensures in
    subst (λ (r : Run). IfOk c.in_groups.result (IsDone c.args.batch.now.start c.in_groups.new.batch.now r))
    (ap (λ gs. run_in_groups begins segs gs c.args.batch.now.now []) each ∙ singles_run begins segs c.args.batch.now.now c.args.order.now c.requires.order)
    c.in_groups.ensures.done
