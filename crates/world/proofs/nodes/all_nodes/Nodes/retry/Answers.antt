use Rattle.std.proofs.Common.{rules}
use Rattle.aeg_base.specs.declared.names.Tier.TheVariants.{Mid, Inv, Pay}
use Rattle.world.proofs.Calls.AtLists.{still_in}
use Rattle.world.proofs.nodes.all_nodes.Nodes.retry.Goals as goal

pub returns-in-Mid : goal.returns-in-Mid
returns-in-Mid c disk = still_in Mid c.args.self.now c.args.node c.from-x.result c.index.result.now disk disk _ _
    (λ S k. k.retry) _ c.in-Mid.is c.from-x.ensures (search rules) (c.retry.ensures disk)

pub returns-in-Inv : goal.returns-in-Inv
returns-in-Inv c disk = still_in Inv c.args.self.now c.args.node c.from-x.result c.index-in-Inv.result.now disk disk _ _
    (λ S k. k.retry) _ c.in-Inv.is c.from-x.ensures (search rules) (c.retry-in-Inv.ensures disk)

pub returns-in-Pay : goal.returns-in-Pay
returns-in-Pay c disk = still_in Pay c.args.self.now c.args.node c.from-x.result c.index-in-Pay.result.now disk disk _ _
    (λ S k. k.retry) _ c.in-Pay.is c.from-x.ensures (search rules) (c.retry-in-Pay.ensures disk)
