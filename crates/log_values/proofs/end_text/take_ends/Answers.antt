use Rattle.std.proofs.lemmas.Result.{err_from_is_err_and}
use Rattle.aeg_wire.specs.Formats.{list_at}
use Rattle.aeg_wire.proofs.Lists.{goes_on, is_done}
use Rattle.log_values.specs.Outcomes.{ending_at}
use Rattle.log_values.proofs.Misses.{list_misses}
use Rattle.log_values.proofs.end_text.take_ends.Goals as goal

pub returns-in_err-end : goal.returns-in_err-end
returns-in_err-end c =
    let p = err_from_is_err_and c.from_residual.result c.from_residual.ensures.1 in
    rw (p.1, p.2) (list_misses ending_at c.in_err-end.field-0.0 c.loop.ends.items c.args.count c.loop.counter
    c.loop.from (list_at ending_at c.args.count c.args.from.now) c.loop-test.true c.in_err-end.ensures c.loop.invariant)

pub loop-preserved : goal.loop-preserved
loop-preserved c = rw c.in_ok-push.ensures.items
    (goes_on ending_at c.loop.ends.items c.args.count c.loop.counter c.loop.from c.in_ok-end.end c.own_end.new.from
    (list_at ending_at c.args.count c.args.from.now) c.loop-test.true c.in_ok-end.ensures c.loop.invariant)

pub returns : goal.returns
returns c = is_done ending_at c.loop.ends.items c.args.count c.loop.counter c.loop.from
    (list_at ending_at c.args.count c.args.from.now) c.loop-test.false c.loop.invariant
