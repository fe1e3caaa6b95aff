use Rattle.tier_laws.proofs.Services.{service_laws}
use Rattle.tier_laws.proofs.booking_laws.programs_meet.Goals as goal

pub returns : goal.returns
returns g c = service_laws
