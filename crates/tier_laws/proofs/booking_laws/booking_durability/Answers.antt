use Rattle.run_model.specs.Runs.{world}
use Rattle.tier_laws.specs.Services.{booking_run}
use Rattle.tier_laws.proofs.Lists.FewNodes.{booking_inv, few}
use Rattle.tier_laws.proofs.Services.{booking_laws}
use Rattle.tier_laws.proofs.Said.FromInvariant.{used_durable, floor_durable, settled_durable}
use Rattle.tier_laws.proofs.Rounds.CausesBefore.{used_before}
use Rattle.tier_laws.proofs.booking_laws.booking_durability.Goals as goal

pub returns-clause-used : goal.returns-clause-used
returns-clause-used x a es r j v made q k l e f h m gone = used_durable (booking_run a) (world (booking_run a) es) r v
    made j q k (booking_inv a es l) e f h m gone

pub returns-clause-before : goal.returns-clause-before
returns-clause-before x a es e r v l n f gone = used_before (booking_run a) es e r v (few a.u l) booking_laws n f gone

pub returns-clause-floors : goal.returns-clause-floors
returns-clause-floors x a es i f n k l e h y z gone = floor_durable (booking_run a) (world (booking_run a) es) i k f n (booking_inv a es l) e h y z gone

pub returns-clause-settled : goal.returns-clause-settled
returns-clause-settled x a es t p f n l e y z gone = settled_durable (booking_run a) (world (booking_run a) es) t p f n (booking_inv a es l) e y z gone
