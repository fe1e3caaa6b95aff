use Rattle.std.proofs.Common.{arith}
use Rattle.log_values.specs.Records.{record_text, record_at, FitsRecord}
use Rattle.log_values.proofs.RecordGrammar.{record_grammar}
use Rattle.log_values.proofs.Wholes.{is_found, is_only}
use Rattle.log_values.proofs.record.Record.decode.Goals as goal

pub returns-clause-found : goal.returns-clause-found
returns-clause-found c = is_found FitsRecord record_text record_at record_grammar c.args.bytes.now c.record_in.result
    (λ i. omega (arith, c.type_inv.bytes i)) c.record_in.ensures

pub returns-clause-only : goal.returns-clause-only
returns-clause-only c = λ r s. is_only FitsRecord record_text record_at record_grammar c.args.bytes.now c.record_in.result c.record_in.ensures r s
