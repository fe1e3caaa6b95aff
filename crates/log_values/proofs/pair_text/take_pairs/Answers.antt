use Rattle.std.proofs.Common.{None}
use Rattle.log_values.specs.Outcomes.{pairs_at}
use Rattle.log_values.proofs.Pairs.{pairs_go_on, pairs_end, pairs_done}
use Rattle.log_values.proofs.pair_text.take_pairs.Goals as goal

pub returns-in_default : goal.returns-in_default
returns-in_default c = pairs_end c.loop.pairs.items c.loop.last c.args.count c.loop.counter c.loop.from
    (pairs_at None c.args.count c.args.from.now) c.loop-test.true c.in_default.ensures c.loop.invariant

pub loop-preserved : goal.loop-preserved
loop-preserved c = rw c.in_ok-push.ensures.items
    (pairs_go_on c.loop.pairs.items c.loop.last c.args.count c.loop.counter c.loop.from c.in-Some.pair
    c.take_pair.new.from (pairs_at None c.args.count c.args.from.now) c.loop-test.true c.in-Some.ensures c.loop.invariant)

pub returns : goal.returns
returns c = pairs_done c.loop.pairs.items c.loop.last c.args.count c.loop.counter c.loop.from
    (pairs_at None c.args.count c.args.from.now) c.loop-test.false c.loop.invariant
