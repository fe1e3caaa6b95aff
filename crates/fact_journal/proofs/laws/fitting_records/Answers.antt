use Rattle.fact_journal.proofs.Fits.{facts_fit, fit_recorded}
use Rattle.fact_journal.proofs.Restoring.{newest_facts, newest_log}
use Rattle.fact_journal.proofs.laws.fitting_records.Goals as goal

pub returns-clause-facts : goal.returns-clause-facts
returns-clause-facts c = λ tier rs fit. facts_fit tier 0 rs fit

pub returns-clause-recorded : goal.returns-clause-recorded
returns-clause-recorded c = fit_recorded

pub returns-clause-newest : goal.returns-clause-newest
returns-clause-newest c = newest_facts

pub returns-clause-newest_log : goal.returns-clause-newest_log
returns-clause-newest_log c = newest_log
