use Rattle.std.proofs.Common.{sym, ◌∙◌}
use Rattle.aegean_main.proofs.ReadingLaws.{started-request, started-none}
use Rattle.aegean_main.proofs.reading.started.Goals as goal

pub returns-in-Ok-clause-is : goal.returns-in-Ok-clause-is
returns-in-Ok-clause-is c = sym (started-request _ _ _ _ _ (sym c.in-Ok.is ∙ c.read_request.ensures))

pub returns-in-Err-clause-is : goal.returns-in-Err-clause-is
returns-in-Err-clause-is c = sym (started-none _ _ _ _ _ (sym c.in-Err.is ∙ c.read_request.ensures))
