use Rattle.node_log.proofs.Moved.{tells}
use Rattle.node_log.proofs.laws.tells.Goals as goal

pub returns : goal.returns
returns g c = λ whole row now taken new held next before after result was left. tells whole row now taken new held next before after was left result
