-- No spelling begins another.
use Rattle.std.specs.Prelude.{◌≡◌, ℕ, List, ◌++◌}
use Rattle.svc_api.specs.declared.outcome.Outcome.{Outcome}
use Rattle.log_values.specs.declared.any_value.AnyValue.{AnyValue}
use Rattle.log_values.specs.declared.fact.Fact.{Fact}
use Rattle.log_values.specs.Outcomes.{outcome, FitsOutcome}
use Rattle.log_values.specs.Values.{any_value, FitsAny}
use Rattle.log_values.specs.Records.{fact, FitsFact}

-- What begins with the spellings of two of one kind begins with one, and has one rest.
pub record BeginNoOther : Type 0 where
  pub values : (a b : AnyValue) (x y : List ℕ) → FitsAny a → FitsAny b → any_value a ++ x ≡ any_value b ++ y → (a ≡ b) × (x ≡ y)
  pub facts : (a b : Fact) (x y : List ℕ) → FitsFact a → FitsFact b → fact a ++ x ≡ fact b ++ y → (a ≡ b) × (x ≡ y)
  pub tokens : (a b : Outcome) (x y : List ℕ) → FitsOutcome a → FitsOutcome b → outcome a ++ x ≡ outcome b ++ y → (a ≡ b) × (x ≡ y)

-- One token tells one outcome.
abbrev pub TellApart : Type 0
TellApart = (a b : Outcome) → FitsOutcome a → FitsOutcome b → outcome a ≡ outcome b → a ≡ b
