use Rattle.rollback.proofs.Bounded.{numbers_after}
use Rattle.rollback.proofs.law.runs_keep_numbers.Goals as goal

pub returns : goal.returns
returns c = numbers_after
