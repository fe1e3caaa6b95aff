use Rattle.std.proofs.Common.{refl}
use Rattle.std.proofs.lemmas.Result.{on_ok_weaker}
use Rattle.run_model.specs.declared.trace.TraceEvent.TheVariants as events
use Rattle.world.proofs.Events.OneMore.{one_more}
use Rattle.world.proofs.progress.Progress.crash.Goals as goal

pub returns : goal.returns
returns c = on_ok_weaker c.note.result
    (λ e disks d. one_more c.args.self.now c.note.new.self c.crash.new.self (events.Crash c.args.node)
    (events.Crash c.args.node) c.args.self.now.cursor disks disks c.args.lines.now c.crash.new.lines (
      c.requires.step,
      d,
    ) refl (c.in_ok-crash.ensures disks) e) c.note.ensures
