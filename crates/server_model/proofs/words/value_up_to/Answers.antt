use Rattle.std.proofs.Common.{arith, ◌+◌}
use Rattle.std.proofs.lemmas.Grind.{common_steps}
use Rattle.server_model.proofs.WordLaws.{value_of-take-le}
use Rattle.std.proofs.lemmas.List.Sums.{fold_more}
use Rattle.server_model.proofs.words.value_up_to.Goals as goal

pub returns-then-value-from : goal.returns-then-value-from
returns-then-value-from c = grind (arith, common_steps, fold_more, value_of-take-le c.args.word.now (c.loop-b.b-index + 1))
