use Rattle.std.specs.Prelude.{map}
use Rattle.std.proofs.lemmas.Result.{on_ok_weaker}
use Rattle.run_model.specs.declared.trace.TraceEvent.TheVariants as events
use Rattle.run_model.specs.declared.trace.Fared.TheVariants.{Fine}
use Rattle.world.proofs.Events.OneMore.{one_more, fares_is}
use Rattle.world.proofs.progress.Progress.short.Goals as goal

pub returns : goal.returns
returns g c =
    let state = g.D.Disk.state in
    on_ok_weaker c.note.result
    (λ e. one_more c.args.self.now c.note.new.self c.short.new.self (events.Short c.args.packet c.args.bytes Fine)
    (events.Short c.args.packet c.args.bytes c.in_ok-fared.fared) c.args.self.now.cursor
    (map state c.args.disks.now) (map state c.short.new.disks) c.args.lines.now c.short.new.lines c.requires.step
    (fares_is (λ f. events.Short c.args.packet c.args.bytes f) Fine c.in_ok-fared.fared c.in_ok-fared.ensures.0) c.in_ok-fared.ensures.1 e) c.note.ensures
