use Rattle.std.proofs.Common.{◌∙◌, refl, ap}
use Rattle.std.proofs.lemmas.Result.{on_ok_weaker}
use Rattle.run_model.specs.declared.trace.TraceEvent.TheVariants as events
use Rattle.world.proofs.Events.OneMore.{one_more, noted}
use Rattle.world.proofs.progress.Progress.submit.Goals as goal

pub returns : goal.returns
returns c = on_ok_weaker c.note.result
    (λ e disks d. one_more c.args.self.now c.note.new.self c.submit.new.self
    (events.Submit c.args.client c.args.body.now) (events.Submit c.args.client c.args.body.now) c.args.self.now.cursor
    disks disks c.args.lines.now c.submit.new.lines (c.requires.step, d) refl (c.in_ok-submit.ensures disks)
    (e ∙ ap (λ z. noted c.args.self.now c.submit.new.self (events.Submit c.args.client z) c.args.self.now.cursor) c.in_ok-body.ensures)) c.note.ensures
