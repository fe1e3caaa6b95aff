use Rattle.log_values.specs.Fields.{FitsBallot}
use Rattle.frames.specs.LogMessages.{IsCarried}
use Rattle.tier_model.specs.Moves.{log_facts}
use Rattle.fact_journal.proofs.Fits.{written}
use Rattle.fact_journal.proofs.Restoring.{in_order, in_range, restored_in, from_log, open_is}
use Rattle.fact_journal.proofs.laws.fitting_facts.Goals as goal

pub returns-clause-written : goal.returns-clause-written
returns-clause-written c = written

pub returns-clause-in_order : goal.returns-clause-in_order
returns-clause-in_order c = in_order

pub returns-clause-in_range : goal.returns-clause-in_range
returns-clause-in_range c = in_range

pub returns-clause-restored : goal.returns-clause-restored
returns-clause-restored c = λ tier u facts fit. restored_in (IsCarried tier) FitsBallot u (log_facts facts)
    (in_range tier 0 facts fit) (in_order tier 0 facts fit)

pub returns-clause-positions : goal.returns-clause-positions
returns-clause-positions c = open_is

pub returns-clause-turns : goal.returns-clause-turns
returns-clause-turns c = from_log
