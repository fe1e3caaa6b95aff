use Rattle.std.proofs.Common.{◌≡◌, ◌<◌, ℕ, get_or}
use Rattle.rule_table.proofs.table.RuleTable.new.Given as goal

abbrev pub invariant-loop-i : goal.invariant-loop-i
invariant-loop-i g l = ((k : ℕ) → k < l.i → get_or l.numbers k 0 ≡ 0 → ⊥) × ((j k : ℕ) → j < k → k < l.i → get_or l.numbers j 0 ≡ get_or l.numbers k 0 → ⊥)
