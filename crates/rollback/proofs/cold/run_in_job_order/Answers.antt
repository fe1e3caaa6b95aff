use Rattle.std.proofs.Common.{◌∙◌, ap, length}
use Rattle.exec_model.specs.Groups.{times}
use Rattle.exec_model.specs.Jobs.{below}
use Rattle.svc_api.proofs.Orders.{below_order}
use Rattle.rollback.proofs.cold.run_in_job_order.Goals as goal

pub run_serial-requires-clause-order : goal.run_serial-requires-clause-order
run_serial-requires-clause-order g c i =
    ap (times i) (c.deref.ensures.value ∙ c.in_ok-order.ensures ∙ ap (λ xs. below (length xs)) c.items.ensures) ∙ below_order (length c.args.job.now.segs) i
