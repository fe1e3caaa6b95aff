use Rattle.std.proofs.Common.{arith}
use Rattle.log_values.specs.Records.{fact, fact_at, FitsFact}
use Rattle.log_values.proofs.RecordGrammar.{fact_grammar}
use Rattle.log_values.proofs.Wholes.{is_found, is_only, from_grammar}
use Rattle.log_values.proofs.fact.Fact.decode.Goals as goal

pub returns-clause-found : goal.returns-clause-found
returns-clause-found c = is_found FitsFact fact fact_at (from_grammar FitsFact fact fact_at fact_grammar)
    c.args.bytes.now c.fact_in.result (λ i. omega (arith, c.type_inv.bytes i)) c.fact_in.ensures

pub returns-clause-only : goal.returns-clause-only
returns-clause-only c = λ f s. is_only FitsFact fact fact_at (from_grammar FitsFact fact fact_at fact_grammar)
    c.args.bytes.now c.fact_in.result c.fact_in.ensures f s
