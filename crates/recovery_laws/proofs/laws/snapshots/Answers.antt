use Rattle.recovery_laws.specs.Snapshots.{snapshot}
use Rattle.recovery_laws.proofs.Alike.{snapshot_same, same_recovers, same_snapshot, snapshot_alike, newer_recovers, records_recover}
use Rattle.recovery_laws.proofs.Alike.{none_ahead_cut, in_order_cut, snapshot_short}
use Rattle.recovery_laws.proofs.laws.snapshots.Goals as goal

pub returns-clause-recovers : goal.returns-clause-recovers
returns-clause-recovers g a F = same_recovers g.row.B.Denot (snapshot F) F (snapshot_same F)

pub returns-clause-alike : goal.returns-clause-alike
returns-clause-alike g a F h = snapshot_alike F h

pub returns-clause-newer : goal.returns-clause-newer
returns-clause-newer g a new F h = newer_recovers g.row.B.Denot new F h

pub returns-clause-records : goal.returns-clause-records
returns-clause-records g a new F h = records_recover g.row.B.Denot new F h

pub returns-clause-none_ahead : goal.returns-clause-none_ahead
returns-clause-none_ahead g a new F h = none_ahead_cut new F h

pub returns-clause-in_order : goal.returns-clause-in_order
returns-clause-in_order g a new F h = in_order_cut new F h

pub returns-clause-again : goal.returns-clause-again
returns-clause-again g a F = same_snapshot (snapshot F) F (snapshot_same F)

pub returns-clause-short : goal.returns-clause-short
returns-clause-short g a F = snapshot_short F
