use Rattle.std.proofs.Common.{refl}
use Rattle.std.specs.Prelude.{map}
use Rattle.std.proofs.lemmas.Result.{on_ok_weaker}
use Rattle.run_model.specs.declared.trace.TraceEvent.TheVariants as events
use Rattle.world.proofs.Events.OneMore.{one_more}
use Rattle.world.proofs.progress.Progress.wipe.Goals as goal

pub returns : goal.returns
returns g c =
    let state = g.D.Disk.state in
    on_ok_weaker c.note.result (λ e. one_more c.args.self.now c.note.new.self c.wipe.new.self (events.Wipe c.args.node)
    (events.Wipe c.args.node) c.args.self.now.cursor (map state c.args.disks.now) (map state c.wipe.new.disks)
    c.args.lines.now c.wipe.new.lines c.requires.step refl c.in_ok-wipe.ensures e) c.note.ensures
