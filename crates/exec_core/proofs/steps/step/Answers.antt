use Rattle.std.proofs.Common.{rules, set, ap, arith}
use Rattle.std.proofs.lemmas.Grind.{common_steps}
use Rattle.std.specs.Vec.{with_items}
use Rattle.exec_core.specs.declared.steps.Went.TheVariants.{Moved, Left}
use Rattle.exec_core.specs.States.{owner_of, slot_progress, Goes}
use Rattle.exec_core.proofs.OneStep.{went-left-at, went-moved-at}
use Rattle.exec_core.proofs.steps.step.Goals as goal

pub returns-else-is_err-3-clause-went : goal.returns-else-is_err-3-clause-went
returns-else-is_err-3-clause-went g c k plans t =
    let m = c.args.m.now in
    let goes : Goes c.args.i (slot_progress g.P.Program.plan c.index_mut.result.now) (owner_of m.owner.items)
    (g.C.Cells.store c.args.cells.now) Left (slot_progress g.P.Program.plan c.go.new.slot) (owner_of c.go.new.owner)
    (g.C.Cells.store c.go.new.cells) = search rules in
    went-left-at g.P.Program.plan m.slots.items (set m.slots.items c.from.result c.go.new.slot) c.args.i
    c.index_mut.result.now c.go.new.slot m.owner.items c.go.new.owner (with_items m.owner c.go.new.owner).items
    (g.C.Cells.store c.args.cells.now) (g.C.Cells.store c.go.new.cells) m.done.items c.push-in-Left.new.self.items
    m.steps.items c.push-else-is_err-2.new.self.items plans t
    c.requires.slots (grind (arith, common_steps)) goes (ap (λ j. set m.slots.items j c.go.new.slot) (search rules))
    (grind (arith, common_steps)) (search rules) (search rules)

pub returns-else-is_err-clause-went : goal.returns-else-is_err-clause-went
returns-else-is_err-clause-went g c k plans t =
    let m = c.args.m.now in
    let goes : Goes c.args.i (slot_progress g.P.Program.plan c.index_mut.result.now) (owner_of m.owner.items)
    (g.C.Cells.store c.args.cells.now) Moved (slot_progress g.P.Program.plan c.go.new.slot)
    (owner_of c.go.new.owner) (g.C.Cells.store c.go.new.cells) = search rules in
    went-moved-at g.P.Program.plan m.slots.items (set m.slots.items c.from.result c.go.new.slot) c.args.i
    c.index_mut.result.now c.go.new.slot m.owner.items c.go.new.owner (with_items m.owner c.go.new.owner).items
    (g.C.Cells.store c.args.cells.now) (g.C.Cells.store c.go.new.cells) m.done.items m.steps.items c.push.new.self.items plans t
    c.requires.slots (grind (arith, common_steps)) goes (ap (λ j. set m.slots.items j c.go.new.slot) (search rules))
    (grind (arith, common_steps)) (search rules)
