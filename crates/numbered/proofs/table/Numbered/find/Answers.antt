use Rattle.std.proofs.Common.{sym}
use Rattle.numbered.proofs.Search.{found_there, found_nowhere}
use Rattle.numbered.proofs.table.Numbered.find.Goals as goal

pub returns-in-Ok-clause-value : goal.returns-in-Ok-clause-value
returns-in-Ok-clause-value g c =
    found_there c.self.inside.rows.items c.deref.result.now c.args.self.now c.args.no c.in-Ok.at c.index.result.now c.self.invariant
    c.deref.ensures.value c.self.view_is c.in-Ok.ensures.found c.index.ensures

pub returns-in-Err-clause-value : goal.returns-in-Err-clause-value
returns-in-Err-clause-value g c =
    sym (found_nowhere c.self.inside.rows.items c.deref.result.now c.args.self.now c.args.no _ c.deref.ensures.value c.self.view_is c.in-Err.ensures.absent)
