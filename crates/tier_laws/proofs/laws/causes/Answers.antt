use Rattle.run_model.specs.Runs.{world}
use Rattle.tier_laws.proofs.Lists.FewNodes.{inv}
use Rattle.tier_laws.proofs.Said.FromInvariant.{caused, is_run}
use Rattle.tier_laws.proofs.laws.causes.Goals as goal

pub returns-clause-causes : goal.returns-clause-causes
returns-clause-causes g z c es r v l laws e = caused c (world c es) r v (inv c es l laws) e

pub returns-clause-runs : goal.returns-clause-runs
returns-clause-runs g z c es v l laws d = is_run c (world c es) v (inv c es l laws) d
