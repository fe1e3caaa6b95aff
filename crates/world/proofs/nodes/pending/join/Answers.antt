use Rattle.std.proofs.Common.{arith}
use Rattle.world.specs.PendingEntries.{listed}
use Rattle.world.proofs.Rows.PendingPlaces.{take_full}
use Rattle.world.proofs.nodes.pending.join.Goals as goal

pub returns-then-len-eq-BATCH_ENTRIES : goal.returns-then-len-eq-BATCH_ENTRIES
returns-then-len-eq-BATCH_ENTRIES c = take_full 8 c.args.batch.now.items (listed c.args.entry.now) (omega arith)
