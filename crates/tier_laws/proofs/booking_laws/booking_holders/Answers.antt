use Rattle.tier_laws.specs.Services.{booking_run}
use Rattle.tier_laws.proofs.Lists.FewNodes.{few}
use Rattle.tier_laws.proofs.Services.{booking_laws}
use Rattle.tier_laws.proofs.Events.Prefixes.{round_holders, floor_holders, settled_holders}
use Rattle.tier_laws.proofs.booking_laws.booking_holders.Goals as goal

pub returns-clause-used : goal.returns-clause-used
returns-clause-used x a es e r v l n f = round_holders (booking_run a) es e r v (few a.u l) booking_laws n f

pub returns-clause-floors : goal.returns-clause-floors
returns-clause-floors x a es i f n k l e h y z = floor_holders (booking_run a) es i f n k (few a.u l) booking_laws e h y z

pub returns-clause-settled : goal.returns-clause-settled
returns-clause-settled x a es t p f n l e y z = settled_holders (booking_run a) es t p f n (few a.u l) booking_laws e y z
