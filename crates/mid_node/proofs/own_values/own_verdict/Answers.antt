use Rattle.std.proofs.Common.{Some, None}
use Rattle.mid_node.proofs.OwnValues.{found_own, none_own}
use Rattle.mid_node.proofs.own_values.own_verdict.Goals as goal

pub returns-in_default : goal.returns-in_default
returns-in_default c = none_own c.args.member.faults c.args.up.now.rest.tallies c.args.round c.from.result c.from.ensures c.in_default.ensures.value

pub returns-in-None : goal.returns-in-None
returns-in-None c =
    found_own c.args.member.faults c.args.up.now.rest.tallies c.args.round c.from.result c.in-Some.tally.now c.in_ok-verdict.field-0 None
    c.requires.range.1.kept.tallies c.from.ensures c.in-Some.ensures.value c.in_ok-verdict.ensures.verdict c.in-None.is

pub returns-in-Some-2 : goal.returns-in-Some-2
returns-in-Some-2 c =
    found_own c.args.member.faults c.args.up.now.rest.tallies c.args.round c.from.result c.in-Some.tally.now c.in_ok-verdict.field-0
    (Some c.in-Some-2.verdict) c.requires.range.1.kept.tallies c.from.ensures c.in-Some.ensures.value c.in_ok-verdict.ensures.verdict c.in-Some-2.is
