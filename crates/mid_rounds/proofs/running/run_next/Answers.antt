use Rattle.std.proofs.Common.{ℕ, List, refl, sym, ap, ◌∙◌, Ok}
use Rattle.applied_rounds.specs.States.{programs_of}
use Rattle.tier_model.specs.declared.turn.Turn.{Turn}
use Rattle.tier_model.specs.MidRows.{with_own}
use Rattle.mid_rounds.specs.Mids.{claims_by, steps_in}
use Rattle.mid_rounds.proofs.RunMoves.{commits, ran}
use Rattle.mid_rounds.proofs.Services.{programs_in}
use Rattle.mid_rounds.proofs.running.run_next.Goals as goal

pub send_token-requires-clause-fits : goal.send_token-requires-clause-fits
send_token-requires-clause-fits g c =
    let s = c.args.svc.now in
    commits (programs_of (g.S.Service.table s) (g.S.Service.beginning s)) c.args.member c.args.up.now c.args.job c.run.new.self c.in_ok-note.note
    c.in_ok-token.token c.in_ok-order.order
    (record {
      next = c.requires.job;
      service = programs_in (g.S.Service.table s) (g.S.Service.beginning s) (λ who body stage. g.met.S.Service.folds s who body stage)
          (λ who body stage asked. g.met.S.Service.proper s who body stage asked) (λ who body stage. g.met.S.Service.again s who body stage);
      range = c.requires.range;
      note_is = c.in_ok-note.ensures.steps;
      rounds_are = c.in_ok-note.ensures.claim;
      token_is = c.in_ok-token.ensures;
      order_is = c.in_ok-order.ensures;
    })

pub returns-clause-told : goal.returns-clause-told
returns-clause-told g c =
    let s = c.args.svc.now in
    ran (programs_of (g.S.Service.table s) (g.S.Service.beginning s)) c.args.member c.args.up.now c.args.job c.run.new.self c.in_ok-note.note
    c.in_ok-token.token c.in_ok-order.order _ c.args.out.now c.send_token.new.out c.without_facts.result _
    (record {
      next = c.requires.job;
      service = programs_in (g.S.Service.table s) (g.S.Service.beginning s) (λ who body stage. g.met.S.Service.folds s who body stage)
          (λ who body stage asked. g.met.S.Service.proper s who body stage asked) (λ who body stage. g.met.S.Service.again s who body stage);
      range = c.requires.range;
      note_is = c.in_ok-note.ensures.steps;
      rounds_are = c.in_ok-note.ensures.claim;
      token_is = c.in_ok-token.ensures;
      order_is = c.in_ok-order.ensures;
    })
    (record {
      log = refl;
      journal = refl;
      rounds_new = refl;
      pending = refl;
      held = refl;
      votes = c.in_ok-_added.ensures.votes ∙ ap (λ (z : List ℕ). with_own (claims_by c.args.up.now.rest.tallies)
          (record { round = c.in_ok-note.note.round; from = c.args.member.me.index; token = c.in_ok-token.token; order = z }))
          (c.items.ensures ∙ sym c.in_ok-order.ensures);
      sizes = c.in_ok-_added.ensures.range;
      sent = c.in_ok-send_token.ensures.sent;
      facts = c.without_facts.ensures.facts;
      answer = c.without_facts.ensures.answer;
      steps_are = ap (λ (z : Turn). steps_in (Ok z)) c.without_facts.ensures.answer;
    })
