use Rattle.rollback.proofs.Fits.{serial_fits}
use Rattle.rollback.proofs.law.outcomes_have_tokens.Goals as goal

pub returns : goal.returns
returns c = serial_fits
