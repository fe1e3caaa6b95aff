use Rattle.std.specs.Prelude.{map}
use Rattle.std.proofs.lemmas.Result.{on_ok_weaker}
use Rattle.run_model.specs.declared.trace.TraceEvent.TheVariants as events
use Rattle.world.specs.Arming.{asked_of}
use Rattle.world.proofs.Events.OneMore.{one_more, fares_is}
use Rattle.world.proofs.progress.Progress.deliver.Goals as goal

pub returns : goal.returns
returns g c =
    let state = g.D.Disk.state in
    on_ok_weaker c.note.result
    (λ e. one_more c.args.self.now c.note.new.self c.deliver.new.self
    (events.Deliver c.args.packet (asked_of c.args.stop)) (events.Deliver c.args.packet c.in_ok-fared.fared)
    c.args.cursor (map state c.args.disks.now) (map state c.deliver.new.disks) c.args.lines.now c.deliver.new.lines
    c.requires.step
    (fares_is (λ f. events.Deliver c.args.packet f) (asked_of c.args.stop) c.in_ok-fared.fared c.in_ok-fared.ensures.0)
    c.in_ok-fared.ensures.1 e) c.note.ensures
