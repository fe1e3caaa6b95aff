use Rattle.std.proofs.Common.{sym}
use Rattle.server_model.specs.Rests.{lines_left}
use Rattle.aegean_main.proofs.RunLaws.{stands_last, stands_stopped, stands_bad_behind, bad_line, was_refused}
use Rattle.aegean_main.proofs.run.run_lines.Goals as goal

pub returns-in-Err-Bad-clause-bad : goal.returns-in-Err-Bad-clause-bad
returns-in-Err-Bad-clause-bad c =
    bad_line c.args.input.now (lines_left c.lines.rest) c.in-Some.line.now (lines_left c.in-Some.more) c.lines.number
    c.lines.count _ _ c.lines.server c.run_line.new.server c.lines.text.items c.run_line.new.text.items _
    c.in-Some.ensures.lines c.in-Err-Bad.field-0-is (sym c.in-Err-Bad.row-is) c.in-Err-Bad.ensures.takes c.lines.invariant.0

pub returns-in-Err-Illegal-clause-tells : goal.returns-in-Err-Illegal-clause-tells
returns-in-Err-Illegal-clause-tells c =
    let was = was_refused c.in-Some.line.now _ _ c.lines.server c.run_line.new.server c.lines.text.items
    c.run_line.new.text.items _ c.in-Err-Illegal.field-0-is (sym c.in-Err-Illegal.row-is) c.in-Err-Illegal.ensures.takes in
    stands_stopped c.args.input.now (lines_left c.lines.rest) c.in-Some.line.now (lines_left c.in-Some.more)
    c.lines.number c.lines.count _ c.lines.server c.lines.text.items c.run_line.new.text.items c.refused.result
    c.in-Some.ensures.lines was.0 was.1.0 was.1.1 c.lines.invariant.0 c.refused.ensures

pub returns-in-Err-Illegal-clause-bad : goal.returns-in-Err-Illegal-clause-bad
returns-in-Err-Illegal-clause-bad c =
    let was = was_refused c.in-Some.line.now _ _ c.lines.server c.run_line.new.server c.lines.text.items
    c.run_line.new.text.items _ c.in-Err-Illegal.field-0-is (sym c.in-Err-Illegal.row-is) c.in-Err-Illegal.ensures.takes in
    stands_bad_behind c.args.input.now (lines_left c.lines.rest) c.in-Some.line.now (lines_left c.in-Some.more)
    c.lines.number c.lines.count _ c.lines.server c.lines.text.items c.run_line.new.text.items c.refused.result
    c.in-Some.ensures.lines was.0 c.lines.invariant.0 c.refused.ensures

pub returns-clause-tells : goal.returns-clause-tells
returns-clause-tells c =
    stands_last c.args.input.now (lines_left c.lines.rest) c.lines.number c.lines.count c.lines.server c.lines.text.items c.add_steps.new.text.items
    c.in_default.ensures.lines c.lines.invariant.0 c.in_ok-add_steps.ensures
