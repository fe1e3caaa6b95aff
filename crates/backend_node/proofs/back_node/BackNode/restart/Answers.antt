use Rattle.std.proofs.Common.{subst}
use Rattle.node_log.specs.Restarting.{Opens}
use Rattle.node_log.specs.Views.{View}
use Rattle.node_log.proofs.Ready.{restarted}
use Rattle.node_log.proofs.Restarted.{restarts}
use Rattle.tier_model.specs.Back.{Back}
use Rattle.tier_model.specs.BackRows.{recovered}
use Rattle.backend_node.specs.Backends.{backend_by}
use Rattle.backend_node.proofs.back_node.BackNode.restart.Goals as goal

pub returns-clause-restarted : goal.returns-clause-restarted
returns-clause-restarted g c =
    let a = g.D.Disk.state c.args.disk.now in
    let b = g.D.Disk.state c.open-opened.new.disk in
    restarts c.args.self.now _ a b (recovered c.args.self.now.faults (backend_by g.B.Backend.opening g.B.Backend.state_after g.B.Backend.code_of))
    c.open-opened.result c.come_up.result
    (subst (λ (z : View (Back g.row.B.Denot)). Opens z.tier a b c.open-opened.result) c.self.view_is c.open-opened.ensures) c.come_up.ensures

pub returns-clause-ready : goal.returns-clause-ready
returns-clause-ready g c =
    restarted c.args.self.now _ (g.D.Disk.state c.args.disk.now) (g.D.Disk.state c.open-opened.new.disk)
    (recovered c.args.self.now.faults (backend_by g.B.Backend.opening g.B.Backend.state_after g.B.Backend.code_of)) c.come_up.result
    (returns-clause-restarted g c)
