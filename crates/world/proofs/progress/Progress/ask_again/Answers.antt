use Rattle.std.proofs.Common.{refl}
use Rattle.std.proofs.lemmas.Result.{on_ok_weaker}
use Rattle.aeg_base.specs.declared.names.End.TheVariants as ends
use Rattle.run_model.specs.declared.trace.TraceEvent.TheVariants as events
use Rattle.world.proofs.Events.OneMore.{one_more}
use Rattle.world.proofs.progress.Progress.ask_again.Goals as goal

pub returns : goal.returns
returns c = on_ok_weaker c.note.result
    (λ e disks d. one_more c.args.self.now c.note.new.self c.ask_again.new.self
    (events.Retry (ends.Client c.args.client)) (events.Retry (ends.Client c.args.client)) c.args.self.now.cursor disks
    disks c.args.lines.now c.ask_again.new.lines (c.requires.step, d) refl (c.in_ok-ask_again.ensures disks) e) c.note.ensures
