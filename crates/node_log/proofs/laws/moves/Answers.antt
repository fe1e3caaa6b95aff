use Rattle.node_log.proofs.Moved.{moves}
use Rattle.node_log.proofs.laws.moves.Goals as goal

pub returns : goal.returns
returns g c = λ whole row now taken new held next a b before between after decided result was left. moves whole row now taken new held next before
    after was left a b between decided result
