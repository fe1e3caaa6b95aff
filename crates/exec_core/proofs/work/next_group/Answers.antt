use Rattle.std.proofs.Common.{◌≡◌, ◌+◌, ◌++◌, refl, arith}
use Rattle.std.proofs.lemmas.Grind.{common_steps}
use Rattle.exec_core.proofs.Underway.{next_state}
use Rattle.exec_core.proofs.work.next_group.Goals as goal

pub returns-clause-state : goal.returns-clause-state
returns-clause-state g c =
    let w = c.args.w.now in
    let order : c.extend_from_slice.new.self.items ≡ w.order.items ++ w.m.done.items = grind (arith, common_steps) in
    next_state g.P.Program.plan w
    (record { m = record w.m { done = c.clear.new.self }; cells = c.mark.new.self; groups = w.groups; at = w.at + 1; order = c.extend_from_slice.new.self })
    refl refl order c.clear.ensures.items refl refl refl refl c.mark.ensures.store c.mark.ensures.base
