use Rattle.std.proofs.Common.{sym}
use Rattle.kv_store.proofs.Place.{found_at, found_in_gap}
use Rattle.kv_store.proofs.column.find.Goals as goal

pub returns-in-Ok : goal.returns-in-Ok
returns-in-Ok c = sym (found_at _ c.requires _ _ c.in-Ok.ensures.found)

pub returns-in-Err : goal.returns-in-Err
returns-in-Err c = sym (found_in_gap _ _ _ c.in-Err.ensures.absent)
