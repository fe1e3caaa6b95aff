use Rattle.tier_laws.specs.Services.{booking_run}
use Rattle.tier_laws.proofs.Lists.FewNodes.{few}
use Rattle.tier_laws.proofs.Services.{booking_laws}
use Rattle.tier_laws.proofs.Said.LaterStarts.{starts_later}
use Rattle.tier_laws.proofs.Said.RepliesLast.{replied_before, finished_before}
use Rattle.tier_laws.proofs.booking_laws.booking_real_order.Goals as goal

pub returns-clause-starts : goal.returns-clause-starts
returns-clause-starts x a es fs i n who body l e new = starts_later (booking_run a) es fs i n who body (few a.u l) booking_laws e new

pub returns-clause-replied : goal.returns-clause-replied
returns-clause-replied x a es fs k i n e who body l told new at = replied_before (booking_run a) es fs k i n e who body (few a.u l) booking_laws told new at

pub returns-clause-finished : goal.returns-clause-finished
returns-clause-finished x a es fs k i j n e who body step l told new at is own = finished_before (booking_run a) es fs k
    i j n e who body step (few a.u l) booking_laws told new at is own
