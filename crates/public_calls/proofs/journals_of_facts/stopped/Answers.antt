use Rattle.std.proofs.Common.{sym, ◌∙◌}
use Rattle.fact_journal.proofs.Standing.{same_facts}
use Rattle.public_calls.proofs.ArmedDisks.{armed_same}
use Rattle.public_calls.proofs.journals_of_facts.stopped.Goals as goal

pub append-requires-clause-ready : goal.append-requires-clause-ready
append-requires-clause-ready g c = λ t.
    let same = armed_same _ _ _ _ c.arm.ensures in
    let w = c.in_ok-journal.ensures.facts (sym c.open_on.ensures.later.tells ∙ (sym same.1 ∙ t)) in
    (w.0, same_facts w.0 _ _ _ w.4 same.0)
