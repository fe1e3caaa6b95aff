use Rattle.std.proofs.Common.{sym, subst}
use Rattle.std.specs.List.{AllByRecursion}
use Rattle.applied_rounds.specs.States.{programs_of}
use Rattle.tier_model.specs.Mid.{ready}
use Rattle.mid_rounds.specs.Deciding.{mid_in}
use Rattle.mid_rounds.specs.Telling.{IsToldIn}
use Rattle.mid_rounds.proofs.DecidedMoves.{told_fit}
use Rattle.mid_rounds.proofs.Services.{programs_in}
use Rattle.mid_node.proofs.Turned.{told_is, told_sent}
use Rattle.mid_node.proofs.turns.apply_due.Goals as goal

pub tell-requires-clause-fit : goal.tell-requires-clause-fit
tell-requires-clause-fit g c =
    let s = c.args.svc.now in
    let p = programs_of (g.S.Service.table s) (g.S.Service.beginning s) in
    let σ = mid_in c.args.member c.args.up.now in
    let round = ready p σ in
    subst (AllByRecursion IsToldIn) (sym c.deref.ensures.value)
    (told_fit p c.args.member.faults c.requires.range.kept.depth c.args.member.me.index σ c.in-Applied.told.items
    (programs_in (g.S.Service.table s) (g.S.Service.beginning s) (λ who body stage. g.met.S.Service.folds s who body stage)
    (λ who body stage asked. g.met.S.Service.proper s who body stage asked) (λ who body stage. g.met.S.Service.again s who body stage))
    c.requires.range.kept.state (told_is c.in_ok-told.field-0 c.in-Applied.told σ round c.in-Applied.is c.in_ok-told.ensures.told))

pub returns-in-Applied-clause-sent : goal.returns-in-Applied-clause-sent
returns-in-Applied-clause-sent g c =
    let s = c.args.svc.now in
    let σ = mid_in c.args.member c.args.up.now in
    let round = ready (programs_of (g.S.Service.table s) (g.S.Service.beginning s)) σ in
    told_sent c.args.member.faults c.args.member.me.index σ round
    c.in-Applied.told.items c.deref.result.now c.args.out.now c.tell.new.out c.tell.result c.deref.ensures.value
    (told_is c.in_ok-told.field-0 c.in-Applied.told σ round c.in-Applied.is c.in_ok-told.ensures.told) c.tell.ensures.sent
