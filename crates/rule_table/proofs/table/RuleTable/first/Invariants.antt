use Rattle.std.proofs.Common.{◌≡◌, drop}
use Rattle.rule_table.specs.Rows.{first_row}
use Rattle.rule_table.proofs.table.RuleTable.first.Given as goal

abbrev pub invariant-loop-i : goal.invariant-loop-i
invariant-loop-i g l = first_row l.numbers l.holds ≡ first_row (drop l.i l.numbers) (drop l.i l.holds)
