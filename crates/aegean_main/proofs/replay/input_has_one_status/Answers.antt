use Rattle.aegean_main.proofs.StatusLaws.{one_way}
use Rattle.aegean_main.proofs.replay.input_has_one_status.Goals as goal

pub returns-clause-status : goal.returns-clause-status
returns-clause-status x input before after later s t a b none too p q = (one_way input before after later s t a b none too p q).0

pub returns-clause-text : goal.returns-clause-text
returns-clause-text x input before after later s t a b none too p q = (one_way input before after later s t a b none too p q).1
