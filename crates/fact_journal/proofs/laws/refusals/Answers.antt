use Rattle.fact_journal.proofs.Opens.{refused_once}
use Rattle.fact_journal.proofs.laws.refusals.Goals as goal

pub returns : goal.returns
returns c = refused_once
