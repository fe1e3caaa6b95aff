use Rattle.server_model.proofs.TextLengths.{text_short}
use Rattle.server_model.proofs.laws.requests_fit.Goals as goal

pub returns : goal.returns
returns c text request e = text_short text request e
