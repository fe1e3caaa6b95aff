use Rattle.std.proofs.Common.{subst, sym}
use Rattle.tier_model.specs.MidRows.{on_frame}
use Rattle.run_model.specs.BookingRuns.{booking_service}
use Rattle.world.specs.Parts.{MidMoves}
use Rattle.world.proofs.nodes.mid_node.MidNode.deliver.Goals as goal

pub returns-in-Log : goal.returns-in-Log
returns-in-Log g c = subst
    (λ m. MidMoves c.args.self.now c.on_log.new.self (g.D.Disk.state c.args.disk.now) (g.D.Disk.state c.on_log.new.disk)
    c.args.out.now c.on_log.new.out
    (λ σ. on_frame c.args.self.now.faults booking_service.programs c.args.self.now.me σ c.args.from m) c.on_log.result)
    (sym c.in-Log.is) c.on_log.ensures

pub returns-in-Request : goal.returns-in-Request
returns-in-Request g c = subst (λ m. MidMoves c.args.self.now c.on_request.new.self (g.D.Disk.state c.args.disk.now)
    (g.D.Disk.state c.args.disk.now) c.args.out.now c.args.out.now
    (λ σ. on_frame c.args.self.now.faults booking_service.programs c.args.self.now.me σ c.args.from m)
    c.on_request.result) (sym c.in-Request.is) (c.on_request.ensures (g.D.Disk.state c.args.disk.now) c.args.out.now)
