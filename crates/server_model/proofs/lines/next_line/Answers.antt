use Rattle.std.proofs.Common.{arith}
use Rattle.std.proofs.lemmas.Grind.{common_steps}
use Rattle.server_model.proofs.LineLaws.{lines_of-first}
use Rattle.server_model.proofs.lines.next_line.Goals as goal

pub returns-clause-lines : goal.returns-clause-lines
returns-clause-lines c = rw c.in_ok-text.was (lines_of-first _ _ _ (grind (arith, common_steps)) c.first_part.ensures.parts c.first_part.ensures.whole)
