use Rattle.pipeline.proofs.Gathered.{more_calls}
use Rattle.pipeline.proofs.calls.put_calls_to.Goals as goal

pub loop-parked-preserved : goal.loop-parked-preserved
loop-parked-preserved c =
    more_calls c.args.tier (λ q. q.now) c.loop-parked.yielded c.in-Some.parked c.items.result.now c.args.calls.now.items
    c.loop-parked.calls.items c.put_calls_among.new.calls.items
    c.loop-parked.invariant c.items.ensures c.in_ok-put_calls_among.ensures.added
