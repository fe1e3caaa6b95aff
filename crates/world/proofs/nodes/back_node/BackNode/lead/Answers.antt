use Rattle.std.proofs.Common.{refl}
use Rattle.log_model.specs.Rows.{lead}
use Rattle.tier_model.specs.BackRows.{leads}
use Rattle.run_model.specs.BookingRuns.{booking_service}
use Rattle.world.proofs.Turns.FewMessages.{lead_few}
use Rattle.world.proofs.Rows.BackRows.{back_turns}
use Rattle.world.proofs.nodes.back_node.BackNode.lead.Goals as goal

pub returns : goal.returns
returns g c =
    back_turns c.self.inside.node c.lead.new.self c.args.self.now (g.D.Disk.state c.args.disk.now)
    (g.D.Disk.state c.lead.new.disk) c.args.out.now c.lead.new.out
    (λ log. lead c.self.inside.node.faults c.self.inside.node.me log)
    (λ u t x σ. leads u (booking_service.backend t) t x σ) c.lead.result c.self.view_is
    c.self.invariant.0 c.self.invariant.1 c.self.invariant.2 c.lead.ensures
    (λ log. lead_few c.self.inside.node.faults c.self.inside.node.me log) (λ log e. refl)
