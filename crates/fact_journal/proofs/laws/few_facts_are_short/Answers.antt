use Rattle.fact_journal.proofs.Lengths.{record_length, few_short}
use Rattle.fact_journal.proofs.laws.few_facts_are_short.Goals as goal

pub returns-clause-each : goal.returns-clause-each
returns-clause-each c = record_length

pub returns-clause-few : goal.returns-clause-few
returns-clause-few c = few_short
