use Rattle.std.proofs.Common.{add-one, ◌∙◌, ◌<◌, length, arith}
use Rattle.rule_table.proofs.Step.{first_row-step}
use Rattle.rule_table.proofs.table.RuleTable.first.Goals as goal

pub loop-i-preserved : goal.loop-i-preserved
loop-i-preserved g c =
    let within : c.loop-i.i < length c.args.holds.now = omega (arith, c.told-holds) in
    c.loop-i.invariant ∙ rw add-one (first_row-step c.self.inside.numbers c.args.holds.now c.loop-i.i _ within c.if-held.false)
