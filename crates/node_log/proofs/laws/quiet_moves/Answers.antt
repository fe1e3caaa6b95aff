use Rattle.node_log.proofs.Quiet.{unmoved}
use Rattle.node_log.proofs.laws.quiet_moves.Goals as goal

pub returns : goal.returns
returns g c = λ row old new a b before after result. unmoved row old new a b before after result
