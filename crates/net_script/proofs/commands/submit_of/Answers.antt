use Rattle.std.proofs.Common.{arith}
use Rattle.std.proofs.lemmas.Grind.{common_steps}
use Rattle.std.proofs.lemmas.List.Splits.{join_with_byte-slice_split}
use Rattle.net_script.proofs.commands.submit_of.Goals as goal

pub returns-clause-is : goal.returns-clause-is
returns-clause-is c = grind (arith, common_steps, join_with_byte-slice_split 32 c.in_ok-body.body.now)
