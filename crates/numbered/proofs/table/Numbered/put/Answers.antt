use Rattle.numbered.proofs.Search.{found_nowhere, whichever, wrote, wrote_rises, inserted, inserted_rises}
use Rattle.numbered.proofs.table.Numbered.put.Goals as goal

pub invariant_of-self : goal.invariant_of-self
invariant_of-self g c =
    wrote_rises c.self.inside.rows.items c.deref.result.now c.args.no c.in-Ok.at c.args.value c.self.invariant c.deref.ensures.value c.in-Ok.ensures.found

pub returns-in-Ok-clause-ok : goal.returns-in-Ok-clause-ok
returns-in-Ok-clause-ok g c =
    wrote c.self.inside.rows.items c.deref.result.now c.args.self.now c.args.no c.in-Ok.at c.args.value c.self.invariant c.deref.ensures.value
    c.self.view_is c.in-Ok.ensures.found

pub invariant_of-self-in-Err : goal.invariant_of-self-in-Err
invariant_of-self-in-Err g c =
    inserted_rises c.self.inside.rows.items c.deref.result.now c.insert.new.self.items c.args.no c.in-Err.at c.args.value c.self.invariant
    c.deref.ensures.value c.in-Err.ensures.absent c.in_ok-insert-in-Err.ensures.items

pub returns-in_ok-insert-in-Err-clause-ok : goal.returns-in_ok-insert-in-Err-clause-ok
returns-in_ok-insert-in-Err-clause-ok g c =
    inserted c.self.inside.rows.items c.deref.result.now c.args.self.now c.insert.new.self.items c.args.no c.in-Err.at c.args.value
    c.deref.ensures.value c.self.view_is c.in-Err.ensures.absent c.in_ok-insert-in-Err.ensures.items

pub returns-in_err-insert-in-Err-clause-new : goal.returns-in_err-insert-in-Err-clause-new
returns-in_err-insert-in-Err-clause-new g c =
    let absent = found_nowhere c.self.inside.rows.items c.deref.result.now c.args.self.now c.args.no c.in-Err.at c.deref.ensures.value c.self.view_is
    c.in-Err.ensures.absent in
    whichever c.from_residual.result absent
