use Rattle.tier_laws.proofs.Lists.FewNodes.{few}
use Rattle.tier_laws.proofs.Events.Prefixes.{round_holders, floor_holders, settled_holders}
use Rattle.tier_laws.proofs.laws.holders.Goals as goal

pub returns-clause-used : goal.returns-clause-used
returns-clause-used g x c es e r v l laws n f = round_holders c es e r v (few c.u l) laws n f

pub returns-clause-floors : goal.returns-clause-floors
returns-clause-floors g z c es i f n k l laws e h a b = floor_holders c es i f n k (few c.u l) laws e h a b

pub returns-clause-settled : goal.returns-clause-settled
returns-clause-settled g x c es t p f n l laws e a b = settled_holders c es t p f n (few c.u l) laws e a b
