use Rattle.fact_journal.proofs.BodiesRead.{StandSo}
use Rattle.fact_journal.proofs.fitting.open_behind_all.Given as goal

abbrev pub invariant-loop-fact : goal.invariant-loop-fact
invariant-loop-fact l = StandSo l.tier l.first l.facts l.fact-index l.next
