use Rattle.batcher.proofs.Dropping.{place_dropped, place_stays}
use Rattle.batcher.proofs.pending.drop_if_done.Goals as goal

pub returns : goal.returns
returns c = place_dropped c.args.entries.now c.from-place.result c.args.client c.args.last c.index-entries-place.result c.stays.result c.told-entries
    c.from-place.ensures c.requires.1 c.stays.ensures c.if-stays.false

pub returns-then-stays : goal.returns-then-stays
returns-then-stays c = place_stays c.args.entries.now c.from-place.result c.args.client c.args.last c.index-entries-place.result c.stays.result
    c.told-entries c.from-place.ensures c.requires.1 c.stays.ensures c.if-stays.true
