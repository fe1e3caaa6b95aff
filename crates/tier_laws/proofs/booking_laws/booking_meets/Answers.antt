use Rattle.tier_laws.proofs.Services.{booking_laws}
use Rattle.tier_laws.proofs.booking_laws.booking_meets.Goals as goal

pub returns : goal.returns
returns c = booking_laws
