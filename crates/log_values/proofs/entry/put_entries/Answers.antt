use Rattle.std.proofs.Common.{rules}
use Rattle.log_values.specs.Values.{entry}
use Rattle.aeg_wire.proofs.Begun.{begun_item}
use Rattle.log_values.proofs.entry.put_entries.Goals as goal

pub returns-in_err-put_entry-clause-err : goal.returns-in_err-put_entry-clause-err
returns-in_err-put_entry-clause-err c =
    let w = begun_item entry c.args.entries.now c.loop-e.e-index c.e-item.result c.args.out.now c.loop-e.out
    c.put_entry.new.out c.loop-e-test.true c.e-item.is c.loop-e.invariant c.in_err-put_entry.ensures.err in
    search rules
