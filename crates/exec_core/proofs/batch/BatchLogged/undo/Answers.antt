use Rattle.std.proofs.Common.{◌∙◌, ap}
use Rattle.exec_core.specs.Batches.{BatchView}
use Rattle.exec_core.proofs.Marks.{start_of_mark}
use Rattle.exec_core.proofs.batch.BatchLogged.undo.Goals as goal

pub returns-clause-start : goal.returns-clause-start
returns-clause-start c =
    start_of_mark c.self.inside.undo.entries _ c.self.inside.mark c.self.inside.store.map _ c.undo_to.ensures.entries
    c.undo_to.ensures.map ∙ ap (λ (b : BatchView). b.start) c.self.view_is
