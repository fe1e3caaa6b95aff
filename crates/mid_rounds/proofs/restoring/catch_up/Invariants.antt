use Rattle.std.proofs.Common.{◌≡◌, ◌-◌, length}
use Rattle.applied_rounds.specs.States.{programs_of}
use Rattle.tier_model.specs.MidRows.{catch_up}
use Rattle.mid_rounds.specs.Mids.{mid_with}
use Rattle.mid_rounds.specs.Deciding.{IsKeptWell}
use Rattle.mid_rounds.proofs.restoring.catch_up.Given as goal

abbrev pub invariant-loop-at : goal.invariant-loop-at
invariant-loop-at g l =
    let p = programs_of (g.S.Service.table l.svc) (g.S.Service.beginning l.svc) in
    IsKeptWell p l.fn.member.faults l.fn.member.me.index (mid_with l.fn.member.me.index l.log.state l.keeping) l.keeping
    × (catch_up p (length l.log.state.learned - l.at) (mid_with l.fn.member.me.index l.log.state l.keeping)
    ≡ catch_up p (length l.log.state.learned) (mid_with l.fn.member.me.index l.log.state l.fn.keeping))
