use Rattle.aeg_wire.specs.Formats.{list_at}
use Rattle.log_values.specs.Ends.{ending_of}
use Rattle.log_values.specs.Outcomes.{ending_at}
use Rattle.log_values.specs.Reading.{left_after}
use Rattle.log_values.proofs.Passing.{pass_on, pass_end, pass_done}
use Rattle.log_values.proofs.end_text.pass_ends.Goals as goal

pub returns-in_default : goal.returns-in_default
returns-in_default c = pass_end ending_at c.args.count c.loop.counter c.loop.from
    (list_at ending_at c.args.count c.args.from.now) c.loop-test.true c.in_default.ensures c.loop.invariant

pub loop-preserved : goal.loop-preserved
loop-preserved c = pass_on ending_at c.args.count c.loop.counter c.loop.from
    (ending_of c.in-Some.field-0.0 c.in-Some.field-0.1.now) c.take_end.new.from
    (left_after (list_at ending_at c.args.count c.args.from.now)) c.loop-test.true c.in-Some.ensures c.loop.invariant

pub returns : goal.returns
returns c = pass_done ending_at c.args.count c.loop.counter c.loop.from
    (left_after (list_at ending_at c.args.count c.args.from.now)) c.loop-test.false c.loop.invariant
