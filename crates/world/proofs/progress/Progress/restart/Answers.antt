use Rattle.std.proofs.Common.{◌∙◌, refl, ap}
use Rattle.std.specs.Prelude.{map}
use Rattle.std.proofs.lemmas.Result.{on_ok_weaker}
use Rattle.run_model.specs.declared.trace.Found.TheVariants.{Reads}
use Rattle.run_model.specs.declared.trace.TraceEvent.TheVariants as events
use Rattle.world.specs.declared.progress.Progress.{Progress}
use Rattle.world.proofs.Events.OneMore.{one_more}
use Rattle.world.proofs.progress.Progress.restart.Goals as goal

pub returns-clause-adds : goal.returns-clause-adds
returns-clause-adds g c =
    let state = g.D.Disk.state in
    on_ok_weaker c.note.result
    (λ e. one_more c.args.self.now c.note.new.self c.restart.new.self (events.Restart c.args.node (Reads 0))
    (events.Restart c.args.node c.in_ok-found.found) c.args.self.now.cursor (map state c.args.disks.now)
    (map state c.restart.new.disks) c.args.lines.now c.restart.new.lines c.requires.step refl
    c.in_ok-found.ensures.plays e) c.note.ensures

pub returns-clause-silent : goal.returns-clause-silent
returns-clause-silent g c = on_ok_weaker c.note.result (λ e. ap (λ (p : Progress). p.parts.soup) e ∙ c.in_ok-found.ensures.silent) c.note.ensures
