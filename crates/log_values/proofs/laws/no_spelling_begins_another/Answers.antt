use Rattle.aeg_wire.proofs.Grammar.{distinct}
use Rattle.log_values.specs.Outcomes.{outcome, outcome_at, FitsOutcome}
use Rattle.log_values.specs.Values.{any_value, any_value_at, FitsAny}
use Rattle.log_values.specs.Records.{fact, fact_at, FitsFact}
use Rattle.log_values.proofs.OutcomeGrammar.{outcome_grammar}
use Rattle.log_values.proofs.ValueGrammar.{any_grammar}
use Rattle.log_values.proofs.RecordGrammar.{fact_grammar}
use Rattle.log_values.proofs.laws.no_spelling_begins_another.Goals as goal

pub returns : goal.returns
returns c = record {
  values = λ a b x y fa fb e. distinct FitsAny any_value any_value_at any_grammar a b x y fa fb e;
  facts = λ a b x y fa fb e. distinct FitsFact fact fact_at fact_grammar a b x y fa fb e;
  tokens = λ a b x y fa fb e. distinct FitsOutcome outcome outcome_at outcome_grammar a b x y fa fb e;
}
