use Rattle.log_model.proofs.Chosen.{learned_chosen, no_other_chosen}
use Rattle.log_model.proofs.Said.{learn_chosen, disk_chosen, no_gap}
use Rattle.log_model.proofs.laws.agreement.Goals as goal

pub returns-clause-learned : goal.returns-clause-learned
returns-clause-learned g c u x p events v few lx l = learned_chosen u events x p v few lx l

pub returns-clause-no_other : goal.returns-clause-no_other
returns-clause-no_other g c u p before after v few m = no_other_chosen u before after p v few m

pub returns-clause-told : goal.returns-clause-told
returns-clause-told g c u i p events k v few e f = learn_chosen u events i k p v few e f

pub returns-clause-no_gap : goal.returns-clause-no_gap
returns-clause-no_gap g c u p events v few e = no_gap u events p v few e

pub returns-clause-on_disk : goal.returns-clause-on_disk
returns-clause-on_disk g c u x p events v R few lx s e = disk_chosen u events x p v R few lx s e
