use Rattle.fact_journal.proofs.BodiesRead.{ReadSo}
use Rattle.fact_journal.proofs.reading.read_facts.Given as goal

abbrev pub invariant-loop-body : goal.invariant-loop-body
invariant-loop-body l = ReadSo l.tier l.bodies l.body-index l.facts.items l.first l.at
