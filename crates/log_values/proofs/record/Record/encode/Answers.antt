use Rattle.std.proofs.Common.{rules}
use Rattle.aeg_wire.proofs.Begun.{begun_item}
use Rattle.log_values.specs.Records.{fact}
use Rattle.log_values.proofs.record.Record.encode.Goals as goal

pub returns-in_err-encode-clause-err : goal.returns-in_err-encode-clause-err
returns-in_err-encode-clause-err c =
    let w = begun_item fact c.items-fact-items.result.now c.loop-fact.fact-index c.fact-item.result c.args.out.now
    c.loop-fact.out c.encode.new.out c.loop-fact-test.true c.fact-item.is c.loop-fact.invariant c.in_err-encode.ensures.err in
    search rules
