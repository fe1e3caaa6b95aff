use Rattle.row_laws.proofs.Served.{spelled_in, booking_in, booking_codes}
use Rattle.row_laws.proofs.services.services_in_range.Goals as goal

pub returns-clause-programs : goal.returns-clause-programs
returns-clause-programs g c = spelled_in

pub returns-clause-booking : goal.returns-clause-booking
returns-clause-booking g c = booking_in

pub returns-clause-backends : goal.returns-clause-backends
returns-clause-backends g c = booking_codes
