use Rattle.std.proofs.Common.{ℕ, subst, sym}
use Rattle.exec_model.specs.Groups.{IsOrder}
use Rattle.base_calls.proofs.runs_by_schedule.books_in_order.Goals as goal

pub run_serial-requires-clause-order : goal.run_serial-requires-clause-order
run_serial-requires-clause-order g c = subst (λ (n : ℕ). IsOrder n c.args.order.now) (sym c.in_ok-job.ensures.count) c.requires
