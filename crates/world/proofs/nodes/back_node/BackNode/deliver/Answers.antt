use Rattle.std.proofs.Common.{subst, sym}
use Rattle.tier_model.specs.BackRows.{on_frame}
use Rattle.run_model.specs.BookingRuns.{booking_service}
use Rattle.world.specs.Parts.{BackMoves}
use Rattle.world.proofs.nodes.back_node.BackNode.deliver.Goals as goal

pub returns-in-Log : goal.returns-in-Log
returns-in-Log g c = subst
    (λ m. BackMoves c.args.self.now c.on_log.new.self (g.D.Disk.state c.args.disk.now)
    (g.D.Disk.state c.on_log.new.disk) c.args.out.now c.on_log.new.out
    (λ σ. on_frame c.args.self.now.faults (booking_service.backend c.args.self.now.tier) c.args.self.now.tier
    c.args.self.now.me σ c.args.from m) c.on_log.result) (sym c.in-Log.is) c.on_log.ensures
