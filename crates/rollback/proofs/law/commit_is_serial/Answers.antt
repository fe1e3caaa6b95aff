use Rattle.rollback.proofs.Commits.{store_is, outcome_is}
use Rattle.rollback.proofs.law.commit_is_serial.Goals as goal

pub returns-clause-store : goal.returns-clause-store
returns-clause-store c = store_is

pub returns-clause-outcome : goal.returns-clause-outcome
returns-clause-outcome c = outcome_is
