use Rattle.node_log.proofs.Ready.{moved, restarted}
use Rattle.node_log.proofs.laws.ready_again.Goals as goal

pub returns-clause-moved : goal.returns-clause-moved
returns-clause-moved g c = λ row old new a b before after result. moved row old new a b before after result

pub returns-clause-restarted : goal.returns-clause-restarted
returns-clause-restarted g c = λ old new a b recovered result. restarted old new a b recovered result
