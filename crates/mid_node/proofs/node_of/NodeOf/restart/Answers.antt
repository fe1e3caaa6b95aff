use Rattle.std.proofs.Common.{ap, subst}
use Rattle.applied_rounds.specs.States.{programs_of}
use Rattle.aeg_base.specs.declared.names.Tier.{Tier}
use Rattle.tier_model.specs.MidRows.{recovered}
use Rattle.node_log.specs.Restarting.{Opens}
use Rattle.node_log.proofs.Restarted.{restarts}
use Rattle.mid_node.proofs.node_of.NodeOf.restart.Goals as goal

pub returns-clause-restarted : goal.returns-clause-restarted
returns-clause-restarted g c =
    let self = c.args.self.now in
    let a = g.D.Disk.state c.args.disk.now in
    let b = g.D.Disk.state c.open-opened.new.disk in
    restarts self.node c.come_up.new.self.node a b
    (recovered self.node.faults (programs_of (g.S.Service.table self.service) (g.S.Service.beginning self.service)) self.depth self.node.me)
    c.open-opened.result c.come_up.result
    (subst (λ (z : Tier). Opens z a b c.open-opened.result) (ap (λ z. z.node.tier) c.self.view_is) c.open-opened.ensures) c.come_up.ensures.up
