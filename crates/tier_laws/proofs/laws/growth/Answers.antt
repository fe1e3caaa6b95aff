use Rattle.tier_laws.proofs.Said.LaterStarts.{goes_on, log_goes_on}
use Rattle.tier_laws.proofs.laws.growth.Goals as goal

pub returns-clause-logs : goal.returns-clause-logs
returns-clause-logs g x c es fs t = log_goes_on c es fs t

pub returns-clause-history : goal.returns-clause-history
returns-clause-history g x c es fs = (goes_on c es fs).hist
