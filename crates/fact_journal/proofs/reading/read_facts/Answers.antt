use Rattle.std.proofs.Common.{◌≡◌, ◌+◌, ◌-◌, ◌^◌, ◌∙◌, ℕ, List, length, min, ap, subst}
use Rattle.fact_journal.specs.Calls.{IsMisfitAt}
use Rattle.fact_journal.proofs.BodiesRead.{read_none, read_next}
use Rattle.fact_journal.proofs.reading.read_facts.Goals as goal

pub returns-in-Ok-None-clause-misfit : goal.returns-in-Ok-None-clause-misfit
returns-in-Ok-None-clause-misfit c = λ n is short.
    let same : c.loop-body.at ≡ n = cc is in
    subst (λ (k : ℕ). IsMisfitAt c.args.tier k c.args.bodies.now) same
    (read_none c.args.tier c.args.bodies.now c.loop-body.body-index c.loop-body.facts.items c.loop-body.first
    c.loop-body.at c.body-item.result c.loop-body-test.true c.body-item.is
    (rw c.in-Ok-None.field-0-is at c.in-Ok-None.ensures) short c.loop-body.invariant)

pub loop-body-preserved : goal.loop-body-preserved
loop-body-preserved c =
    read_next c.args.tier c.args.bodies.now c.loop-body.body-index c.loop-body.facts.items c.take_record.new.facts.items
    c.loop-body.first c.in-Ok-Some.next c.loop-body.at c.saturating_add-at.result c.body-item.result
    c.loop-body-test.true c.body-item.is
    (rw c.in-Ok-Some.field-0-is at c.in-Ok-Some.ensures) (c.saturating_add-at.ensures
    ∙ ap (λ (l : List ℕ). min (c.loop-body.at + (5 + length l)) (2 ^ 64 - 1)) c.items.ensures) c.loop-body.invariant
