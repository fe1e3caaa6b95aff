use Rattle.run_model.specs.Runs.{world}
use Rattle.tier_laws.specs.Services.{booking_run}
use Rattle.tier_laws.proofs.Lists.FewNodes.{booking_inv}
use Rattle.tier_laws.proofs.Said.FromInvariant.{caused, is_run}
use Rattle.tier_laws.proofs.booking_laws.booking_causes.Goals as goal

pub returns-clause-causes : goal.returns-clause-causes
returns-clause-causes x a es r v l e = caused (booking_run a) (world (booking_run a) es) r v (booking_inv a es l) e

pub returns-clause-runs : goal.returns-clause-runs
returns-clause-runs x a es v l d = is_run (booking_run a) (world (booking_run a) es) v (booking_inv a es l) d
