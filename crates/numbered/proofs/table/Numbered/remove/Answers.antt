use Rattle.std.proofs.Common.{sym}
use Rattle.numbered.proofs.Search.{removed, removed_rises, removed_none, found_there, found_nowhere}
use Rattle.numbered.proofs.table.Numbered.remove.Goals as goal

pub invariant_of-self : goal.invariant_of-self
invariant_of-self g c =
    removed_rises c.self.inside.rows.items c.deref.result.now c.remove.new.self.items c.args.no c.in-Ok.at c.self.invariant c.deref.ensures.value
    c.in-Ok.ensures.found c.remove.ensures.items

pub returns-in-Ok-clause-value : goal.returns-in-Ok-clause-value
returns-in-Ok-clause-value g c =
    found_there c.self.inside.rows.items c.deref.result.now c.args.self.now c.args.no c.in-Ok.at c.remove.result c.self.invariant
    c.deref.ensures.value c.self.view_is c.in-Ok.ensures.found c.remove.ensures.value

pub returns-in-Err-clause-value : goal.returns-in-Err-clause-value
returns-in-Err-clause-value g c =
    sym (found_nowhere c.self.inside.rows.items c.deref.result.now c.args.self.now c.args.no _ c.deref.ensures.value c.self.view_is c.in-Err.ensures.absent)

pub returns-in-Ok-clause-without : goal.returns-in-Ok-clause-without
returns-in-Ok-clause-without g c =
    removed c.self.inside.rows.items c.deref.result.now c.args.self.now c.remove.new.self.items c.args.no c.in-Ok.at c.self.invariant
    c.deref.ensures.value c.self.view_is c.in-Ok.ensures.found c.remove.ensures.items

pub returns-in-Err-clause-without : goal.returns-in-Err-clause-without
returns-in-Err-clause-without g c =
    removed_none c.self.inside.rows.items c.deref.result.now c.args.self.now c.args.no c.in-Err.field-0 c.deref.ensures.value c.self.view_is
    c.in-Err.ensures.absent
