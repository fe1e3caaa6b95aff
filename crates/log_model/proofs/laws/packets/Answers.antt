use Rattle.log_model.proofs.Said.{one_value, higher_value, promised_kept, vote_kept}
use Rattle.log_model.proofs.laws.packets.Goals as goal

pub returns-clause-one_value : goal.returns-clause-one_value
returns-clause-one_value g c u i j p events k l b v w few ei ej cv cw = one_value u events i j k l b p v w few ei ej cv cw

pub returns-clause-higher : goal.returns-clause-higher
returns-clause-higher g c u j p events l d v w m few ej cw le = higher_value u events j l d p v w m few ej cw le

pub returns-clause-promised : goal.returns-clause-promised
returns-clause-promised g c u i events k b R few lx ei e s = promised_kept u events i k b R few lx ei e s

pub returns-clause-accepted : goal.returns-clause-accepted
returns-clause-accepted g c u i p events k b v R few lx ei e s = vote_kept u events i k b p v R few lx ei e s
