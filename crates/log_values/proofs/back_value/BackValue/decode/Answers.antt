use Rattle.std.proofs.Common.{arith}
use Rattle.log_values.specs.Values.{back_value, back_value_at, FitsBack}
use Rattle.log_values.proofs.ValueGrammar.{back_grammar}
use Rattle.log_values.proofs.Wholes.{is_found, is_only, from_grammar}
use Rattle.log_values.proofs.back_value.BackValue.decode.Goals as goal

pub returns-clause-found : goal.returns-clause-found
returns-clause-found c = is_found FitsBack back_value back_value_at
    (from_grammar FitsBack back_value back_value_at back_grammar) c.args.bytes.now c.value_in.result
    (λ i. omega (arith, c.type_inv.bytes i)) c.value_in.ensures

pub returns-clause-only : goal.returns-clause-only
returns-clause-only c = λ v s. is_only FitsBack back_value back_value_at
    (from_grammar FitsBack back_value back_value_at back_grammar) c.args.bytes.now c.value_in.result c.value_in.ensures v s
