use Rattle.std.proofs.Common.{subst}
use Rattle.applied_rounds.specs.States.{programs_of}
use Rattle.frames.specs.LogMessages.{IsCarried}
use Rattle.log_model.specs.Ranges.{IsLogIn}
use Rattle.log_values.specs.Fields.{FitsBallot}
use Rattle.mid_rounds.proofs.CaughtUp.{bare_kept, recovered_is}
use Rattle.mid_rounds.proofs.restoring.restored_keeping.Goals as goal

pub catch_up-requires-clause-kept : goal.catch_up-requires-clause-kept
catch_up-requires-clause-kept g c =
    bare_kept (programs_of (g.S.Service.table c.args.svc.now) (g.S.Service.beginning c.args.svc.now)) c.args.member.faults c.args.depth
    c.args.member.me.index c.args.log.now.state _
    (record { rounds = c.in_ok-new.ensures; pending = c.new-2.ensures; tallies = c.new-3.ensures.empty }) c.requires.depth
    (subst (λ t. IsLogIn (IsCarried t) FitsBallot c.args.log.now.state) c.requires.member.tier c.requires.log.range)
    c.requires.held

pub returns-clause-state : goal.returns-clause-state
returns-clause-state g c facts held log =
    recovered_is (programs_of (g.S.Service.table c.args.svc.now) (g.S.Service.beginning c.args.svc.now)) c.args.member.faults c.args.depth
    c.args.member.me.index c.args.log.now.state
    (record { rounds = c.in_ok-new.field-0; pending = c.new-2.result; tallies = c.new-3.result; held = c.args.held }) facts _
    (record { rounds = c.in_ok-new.ensures; pending = c.new-2.ensures; tallies = c.new-3.ensures.empty }) held log c.in_ok-catch_up.ensures.state
