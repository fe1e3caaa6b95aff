use Rattle.std.proofs.Common.{refl}
use Rattle.std.proofs.lemmas.Result.{on_ok_weaker}
use Rattle.aeg_base.specs.declared.names.End.TheVariants as ends
use Rattle.run_model.specs.declared.trace.TraceEvent.TheVariants as events
use Rattle.world.proofs.Events.OneMore.{one_more}
use Rattle.world.proofs.progress.Progress.retry.Goals as goal

pub returns : goal.returns
returns c = on_ok_weaker c.note.result
    (λ e disks d. one_more c.args.self.now c.note.new.self c.retry.new.self (events.Retry (ends.Node c.args.node))
    (events.Retry (ends.Node c.args.node)) c.args.self.now.cursor disks disks c.args.lines.now c.retry.new.lines
    (c.requires.step, d) refl (c.in_ok-retry.ensures disks) e) c.note.ensures
