use Rattle.std.proofs.Common.{arith}
use Rattle.log_values.specs.Values.{any_value, any_value_at, FitsAny}
use Rattle.log_values.proofs.ValueGrammar.{any_grammar}
use Rattle.log_values.proofs.Wholes.{is_found, is_only, from_grammar}
use Rattle.log_values.proofs.any_value.AnyValue.decode.Goals as goal

pub returns-clause-found : goal.returns-clause-found
returns-clause-found c = is_found FitsAny any_value any_value_at
    (from_grammar FitsAny any_value any_value_at any_grammar) c.args.bytes.now c.value_in.result
    (λ i. omega (arith, c.type_inv.bytes i)) c.value_in.ensures

pub returns-clause-only : goal.returns-clause-only
returns-clause-only c = λ v s. is_only FitsAny any_value any_value_at
    (from_grammar FitsAny any_value any_value_at any_grammar) c.args.bytes.now c.value_in.result c.value_in.ensures v s
