use Rattle.run_model.specs.Runs.{world}
use Rattle.tier_laws.proofs.Lists.FewNodes.{few, inv}
use Rattle.tier_laws.proofs.Said.FromInvariant.{used_durable, floor_durable, settled_durable}
use Rattle.tier_laws.proofs.Rounds.CausesBefore.{used_before}
use Rattle.tier_laws.proofs.laws.durability.Goals as goal

pub returns-clause-used : goal.returns-clause-used
returns-clause-used g z c es r j v made q k l laws e f h m gone = used_durable c (world c es) r v made j q k (inv c es l laws) e f h m gone

pub returns-clause-before : goal.returns-clause-before
returns-clause-before g x c es e r v l laws n f gone = used_before c es e r v (few c.u l) laws n f gone

pub returns-clause-floors : goal.returns-clause-floors
returns-clause-floors g z c es i f n k l laws e h a b gone = floor_durable c (world c es) i k f n (inv c es l laws) e h a b gone

pub returns-clause-settled : goal.returns-clause-settled
returns-clause-settled g z c es t p f n l laws e a b gone = settled_durable c (world c es) t p f n (inv c es l laws) e a b gone
