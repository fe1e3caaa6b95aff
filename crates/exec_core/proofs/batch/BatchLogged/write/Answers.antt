use Rattle.std.proofs.Common.{◌≤◌, ◌∙◌, sym, ap, subst, length, drop}
use Rattle.kv_store.specs.Stores.{unwound}
use Rattle.exec_core.specs.Batches.{BatchView}
use Rattle.exec_core.proofs.Marks.{base_kept}
use Rattle.exec_core.proofs.batch.BatchLogged.write.Goals as goal

pub returns-clause-base : goal.returns-clause-base
returns-clause-base c =
    let mark = c.self.inside.mark in
    let es = c.self.inside.undo.entries in
    let same = c.reserve.ensures.entries in
    base_kept c.reserve.new.undo.entries _ mark c.reserve.new.self.map _ c.args.key c.args.value
    (subst (λ xs. mark ≤ length xs) (sym same) c.self.invariant.marked) c.put_logged.ensures.entries c.put_logged.ensures.map
    ∙ ap (λ xs. unwound (drop mark xs) c.reserve.new.self.map) same ∙ ap (unwound (drop mark es)) c.reserve.ensures.map
    ∙ ap (λ (b : BatchView). b.base) c.self.view_is
