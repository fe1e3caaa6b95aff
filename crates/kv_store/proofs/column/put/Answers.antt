use Rattle.std.proofs.Common.{}
use Rattle.kv_store.proofs.Place.{sets_in_gap}
use Rattle.kv_store.proofs.column.put.Goals as goal

pub returns-clause-sets : goal.returns-clause-sets
returns-clause-sets c = rw c.in-Ok.ensures.items (sets_in_gap _ _ _ c.requires.gap c.args.value)
