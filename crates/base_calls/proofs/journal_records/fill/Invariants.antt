use Rattle.std.proofs.Common.{◌≡◌, true}
use Rattle.node_journal.specs.Append.{IsReady}
use Rattle.base_calls.proofs.journal_records.fill.Given as goal

abbrev pub invariant-loop : goal.invariant-loop
invariant-loop g l = (g.D.Disk.state l.disk).tells ≡ true → IsReady (g.D.Disk.state l.disk) l.journal
