use Rattle.std.proofs.Common.{subst}
use Rattle.node_log.specs.Views.{Wrote, MayHaveWritten, HasCause}
use Rattle.node_log.proofs.Told.{wrote, may_have, has_cause}
use Rattle.node_log.proofs.recording.append.Goals as goal

pub returns-in-Ok-clause-wrote : goal.returns-in-Ok-clause-wrote
returns-in-Ok-clause-wrote g c =
    let old = g.D.Disk.state c.args.disk.now in
    let new = g.D.Disk.state c.append-answer.new.disk in
    subst (Wrote old new c.args.journal.now c.append-answer.new.self) c.of-record.ensures
    (wrote c.args.journal.now c.append-answer.new.self c.of-record.result old new c.append-answer.result c.in-Ok.is
    (record {
      idle = c.append-answer.ensures.idle;
      full = c.append-answer.ensures.full;
      past = c.append-answer.ensures.past;
      nothing_written = c.append-answer.ensures.nothing_written;
      place = c.append-answer.ensures.place;
      leaves = c.append-answer.ensures.leaves;
      stopped = c.append-answer.ensures.stopped;
      unmet = c.append-answer.ensures.unmet;
      cause = c.append-answer.ensures.cause;
    }))

pub returns-in-Err-clause-may_have : goal.returns-in-Err-clause-may_have
returns-in-Err-clause-may_have g c =
    let old = g.D.Disk.state c.args.disk.now in
    let new = g.D.Disk.state c.append-answer.new.disk in
    subst (MayHaveWritten old new c.args.journal.now) c.of-record.ensures
    (may_have c.args.journal.now c.append-answer.new.self c.of-record.result old new c.append-answer.result c.in-Err.error c.in-Err.is
    (record {
      idle = c.append-answer.ensures.idle;
      full = c.append-answer.ensures.full;
      past = c.append-answer.ensures.past;
      nothing_written = c.append-answer.ensures.nothing_written;
      place = c.append-answer.ensures.place;
      leaves = c.append-answer.ensures.leaves;
      stopped = c.append-answer.ensures.stopped;
      unmet = c.append-answer.ensures.unmet;
      cause = c.append-answer.ensures.cause;
    }))

pub returns-in-Err-clause-cause : goal.returns-in-Err-clause-cause
returns-in-Err-clause-cause g c = λ fault same.
    let old = g.D.Disk.state c.args.disk.now in
    let new = g.D.Disk.state c.append-answer.new.disk in
    subst (λ z. HasCause old new c.args.journal.now z fault) c.of-record.ensures
    (has_cause c.args.journal.now c.append-answer.new.self c.of-record.result old new c.append-answer.result c.in-Err.error c.fault_of.result fault
    c.in-Err.is c.fault_of.ensures same
    (record {
      idle = c.append-answer.ensures.idle;
      full = c.append-answer.ensures.full;
      past = c.append-answer.ensures.past;
      nothing_written = c.append-answer.ensures.nothing_written;
      place = c.append-answer.ensures.place;
      leaves = c.append-answer.ensures.leaves;
      stopped = c.append-answer.ensures.stopped;
      unmet = c.append-answer.ensures.unmet;
      cause = c.append-answer.ensures.cause;
    }))
