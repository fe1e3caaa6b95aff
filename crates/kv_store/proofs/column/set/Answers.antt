use Rattle.kv_store.proofs.Place.{sets_at, found_in_gap}
use Rattle.kv_store.proofs.column.set.Goals as goal

pub returns-in-Ok-clause-sets : goal.returns-in-Ok-clause-sets
returns-in-Ok-clause-sets c = sets_at c.args.column.now.items c.requires.rising c.args.id c.in-Ok.at
    (rw (← c.deref.ensures.value) c.in-Ok.ensures.found) c.args.value

pub put-requires-clause-room : goal.put-requires-clause-room
put-requires-clause-room c = c.requires.room (found_in_gap c.args.column.now.items c.args.id c.in-Err.at (rw (← c.deref.ensures.value) c.in-Err.ensures.absent))

pub returns-in-Err-clause-new : goal.returns-in-Err-clause-new
returns-in-Err-clause-new c lt = found_in_gap c.args.column.now.items c.args.id c.in-Err.at (rw (← c.deref.ensures.value) c.in-Err.ensures.absent)
