use Rattle.std.proofs.Common.{None}
use Rattle.log_values.specs.Outcomes.{pairs_at}
use Rattle.log_values.specs.Reading.{left_after}
use Rattle.log_values.proofs.Pairs.{pairs_pass_on, pairs_pass_end, pairs_pass_done}
use Rattle.log_values.proofs.pair_text.pass_pairs.Goals as goal

pub returns-in_default : goal.returns-in_default
returns-in_default c = pairs_pass_end c.loop.last c.args.count c.loop.counter c.loop.from
    (pairs_at None c.args.count c.args.from.now) c.loop-test.true c.in_default.ensures c.loop.invariant

pub loop-preserved : goal.loop-preserved
loop-preserved c = pairs_pass_on c.loop.last c.args.count c.loop.counter c.loop.from c.in-Some.pair c.take_pair.new.from
    (left_after (pairs_at None c.args.count c.args.from.now)) c.loop-test.true c.in-Some.ensures c.loop.invariant

pub returns : goal.returns
returns c = pairs_pass_done c.loop.last c.args.count c.loop.counter c.loop.from
    (left_after (pairs_at None c.args.count c.args.from.now)) c.loop-test.false c.loop.invariant
