use Rattle.std.proofs.Common.{arith}
use Rattle.log_values.specs.Outcomes.{outcome, outcome_at, FitsOutcome}
use Rattle.log_values.proofs.OutcomeGrammar.{outcome_grammar}
use Rattle.log_values.proofs.Wholes.{is_found, is_only, from_grammar}
use Rattle.log_values.proofs.token.told_by.Goals as goal

pub returns-clause-found : goal.returns-clause-found
returns-clause-found c = is_found FitsOutcome outcome outcome_at
    (from_grammar FitsOutcome outcome outcome_at outcome_grammar) c.args.bytes.now c.outcome_in.result
    (λ i. omega (arith, c.type_inv.bytes i)) c.outcome_in.ensures

pub returns-clause-only : goal.returns-clause-only
returns-clause-only c = λ o s. is_only FitsOutcome outcome outcome_at
    (from_grammar FitsOutcome outcome outcome_at outcome_grammar) c.args.bytes.now c.outcome_in.result c.outcome_in.ensures o s
