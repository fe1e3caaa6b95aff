use Rattle.std.proofs.Common.{◌++◌, refl, sym, subst, ap, ◌∙◌}
use Rattle.std.specs.List.{AllByRecursion, flat_map}
use Rattle.applied_rounds.specs.States.{programs_of}
use Rattle.mid_rounds.specs.Deciding.{mid_in}
use Rattle.mid_rounds.specs.Settlings.{told_by}
use Rattle.mid_rounds.specs.Telling.{IsToldIn}
use Rattle.mid_rounds.proofs.DecidedMoves.{applied, sealed_of, told_fit}
use Rattle.mid_rounds.proofs.Services.{programs_in}
use Rattle.mid_rounds.proofs.running.apply_next.Goals as goal

pub tell-requires-clause-fit : goal.tell-requires-clause-fit
tell-requires-clause-fit g c =
    let s = c.args.svc.now in
    subst (AllByRecursion IsToldIn) (sym c.deref.ensures.value)
    (told_fit (programs_of (g.S.Service.table s) (g.S.Service.beginning s)) c.args.member.faults c.requires.range.kept.depth c.args.member.me.index
    (mid_in c.args.member c.args.up.now) c.in-Applied.told.items
    (programs_in (g.S.Service.table s) (g.S.Service.beginning s) (λ who body stage. g.met.S.Service.folds s who body stage)
    (λ who body stage asked. g.met.S.Service.proper s who body stage asked) (λ who body stage. g.met.S.Service.again s who body stage))
    c.requires.range.kept.state (sym (ap told_by c.in-Applied.is) ∙ c.in_ok-told.ensures.told))

pub returns-in_ok-tell-in-Applied : goal.returns-in_ok-tell-in-Applied
returns-in_ok-tell-in-Applied g c =
    let s = c.args.svc.now in
    applied (programs_of (g.S.Service.table s) (g.S.Service.beginning s)) c.args.member c.args.up.now _ c.args.out.now c.tell.new.out
    c.without_facts.result c.in-Applied.told.items
    (record {
      state = c.in_ok-told.ensures.state;
      facts = c.without_facts.ensures.facts;
      journal = refl;
      range = record { log = c.requires.range.log; kept = c.in_ok-told.ensures.range };
    })
    (sym (ap told_by c.in-Applied.is) ∙ c.in_ok-told.ensures.told)
    (c.in_ok-tell-in-Applied.ensures.sent ∙ ap (λ told. c.args.out.now ++ flat_map (sealed_of c.args.member.faults c.args.member.me.index) told)
    c.deref.ensures.value)
    c.without_facts.ensures.answer
