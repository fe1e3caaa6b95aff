use Rattle.std.proofs.Common.{sym, ◌∙◌}
use Rattle.public_calls.proofs.journals_of_facts.add_one.Goals as goal

pub append-requires-clause-ready : goal.append-requires-clause-ready
append-requires-clause-ready g c = λ t. let w = c.in_ok-journal.ensures.facts (sym c.open_on.ensures.later.tells ∙ t) in (w.0, w.4)
