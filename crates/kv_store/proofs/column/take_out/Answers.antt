use Rattle.kv_store.proofs.Place.{takes_at, takes_none}
use Rattle.kv_store.proofs.column.take_out.Goals as goal

pub returns-in-Ok-clause-takes : goal.returns-in-Ok-clause-takes
returns-in-Ok-clause-takes c = rw c.remove.ensures.items
    (takes_at c.args.column.now.items c.requires.rising c.args.id c.in-Ok.at (rw (← c.deref.ensures.value) c.in-Ok.ensures.found))

pub returns-in-Err-clause-takes : goal.returns-in-Err-clause-takes
returns-in-Err-clause-takes c = takes_none c.args.column.now.items c.args.id c.in-Err.field-0 (rw (← c.deref.ensures.value) c.in-Err.ensures.absent)
