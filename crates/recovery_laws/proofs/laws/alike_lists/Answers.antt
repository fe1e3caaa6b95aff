use Rattle.recovery_laws.proofs.Alike.{alike_same, same_recovers, same_snapshot, newer_alike}
use Rattle.recovery_laws.proofs.laws.alike_lists.Goals as goal

pub returns-clause-recovers : goal.returns-clause-recovers
returns-clause-recovers g a F G h = same_recovers g.row.B.Denot F G (alike_same F G h)

pub returns-clause-same_snapshot : goal.returns-clause-same_snapshot
returns-clause-same_snapshot g a F G h = same_snapshot F G (alike_same F G h)

pub returns-clause-newer : goal.returns-clause-newer
returns-clause-newer g a new F G h = newer_alike new F G h
