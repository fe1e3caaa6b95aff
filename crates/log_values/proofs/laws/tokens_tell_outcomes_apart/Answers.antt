use Rattle.std.proofs.Common.{[], ◌++◌, ap, List, ℕ}
use Rattle.aeg_wire.proofs.Grammar.{distinct}
use Rattle.log_values.specs.Outcomes.{outcome, outcome_at, FitsOutcome}
use Rattle.log_values.proofs.OutcomeGrammar.{outcome_grammar}
use Rattle.log_values.proofs.laws.tokens_tell_outcomes_apart.Goals as goal

pub returns : goal.returns
returns c = λ a b fa fb e. (distinct FitsOutcome outcome outcome_at outcome_grammar a b [] [] fa fb (ap (λ (w : List ℕ). w ++ []) e)).0
