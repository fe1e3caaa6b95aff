use Rattle.std.proofs.Common.{ℕ, refl, sym, ap, ◌∙◌}
use Rattle.applied_rounds.specs.States.{programs_of}
use Rattle.applied_rounds.specs.Told.{told_in, tolds}
use Rattle.round_model.specs.Held.{held_code}
use Rattle.round_model.specs.Numbered.{without}
use Rattle.round_model.specs.Settling.{finish_of}
use Rattle.round_model.specs.Tables.{wants}
use Rattle.mid_rounds.proofs.NextRounds.{applied_is, batch_fits, kept_after, kept_same, unapplied, verdict_fits}
use Rattle.mid_rounds.proofs.Services.{programs_in}
use Rattle.mid_rounds.proofs.applying.settle_next.Goals as goal

pub apply-requires-clause-batch : goal.apply-requires-clause-batch
apply-requires-clause-batch g c =
    batch_fits (programs_of (g.S.Service.table c.args.svc.now) (g.S.Service.beginning c.args.svc.now)) c.args.member.faults c.args.member.me.index
    c.applied-round.result c.args.log.now.state c.args.keeping.now c.in-Some.batch.now c.requires.kept c.applied-round.ensures.is c.in-Some.ensures

pub apply-requires-clause-verdict : goal.apply-requires-clause-verdict
apply-requires-clause-verdict g c =
    (verdict_fits (programs_of (g.S.Service.table c.args.svc.now) (g.S.Service.beginning c.args.svc.now)) c.args.member.faults c.args.member.me.index
    c.applied-round.result c.args.log.now.state c.args.keeping.now c.in-Some-verdict_at.verdict.now c.requires.kept c.applied-round.ensures.is
    c.in-Some-verdict_at.ensures).0

pub apply-requires-clause-rounds : goal.apply-requires-clause-rounds
apply-requires-clause-rounds g c =
    (verdict_fits (programs_of (g.S.Service.table c.args.svc.now) (g.S.Service.beginning c.args.svc.now)) c.args.member.faults c.args.member.me.index
    c.applied-round.result c.args.log.now.state c.args.keeping.now c.in-Some-verdict_at.verdict.now c.requires.kept c.applied-round.ensures.is
    c.in-Some-verdict_at.ensures).1

pub returns-in-Applied-clause-state : goal.returns-in-Applied-clause-state
returns-in-Applied-clause-state g c =
    let p = programs_of (g.S.Service.table c.args.svc.now) (g.S.Service.beginning c.args.svc.now) in
    let k = c.args.keeping.now in
    applied_is p c.args.member.me.index c.applied-round.result c.args.log.now.state k
    (record { rounds = c.apply.new.self; pending = c.drop_done.new.self; tallies = c.take_out.new.self; held = k.held }) c.clients.result.now
    c.in-Some.batch.now c.in-Some-verdict_at.verdict.now c.in-Applied.told.items
    (λ o. tolds k.rounds.tables.next (wants p k.rounds.tables c.in-Some.batch.now) o.ends)
    (record {
      round = c.applied-round.ensures.is;
      batch = c.in-Some.ensures;
      verdict = c.in-Some-verdict_at.ensures;
      rounds = c.in_ok-told.ensures.state;
      told_is = sym (ap told_in c.in-Applied.is) ∙ c.in_ok-told.ensures.told;
      agrees = c.clients.ensures;
      pending = c.drop_done.ensures;
      tallies = c.take_out.ensures.without ∙ ap (λ (z : ℕ). without k.tallies z) c.from.ensures;
      held = refl;
    })

pub returns-in-Applied-clause-range : goal.returns-in-Applied-clause-range
returns-in-Applied-clause-range g c =
    let s = c.args.svc.now in
    let k = c.args.keeping.now in
    kept_after (programs_of (g.S.Service.table s) (g.S.Service.beginning s)) c.args.member.faults c.args.member.me.index c.applied-round.result
    c.args.log.now.state k
    (record { rounds = c.apply.new.self; pending = c.drop_done.new.self; tallies = c.take_out.new.self; held = k.held })
    (programs_in (g.S.Service.table s) (g.S.Service.beginning s) (λ who body stage. g.met.S.Service.folds s who body stage)
    (λ who body stage asked. g.met.S.Service.proper s who body stage asked) (λ who body stage. g.met.S.Service.again s who body stage))
    c.requires.kept (returns-in-Applied-clause-state g c)
    (c.take_out.ensures.without ∙ ap (λ (z : ℕ). without k.tallies z) c.from.ensures)

pub returns-in-NoAnswer-clause-range : goal.returns-in-NoAnswer-clause-range
returns-in-NoAnswer-clause-range g c =
    let p = programs_of (g.S.Service.table c.args.svc.now) (g.S.Service.beginning c.args.svc.now) in
    let k = c.args.keeping.now in
    let ws = wants p k.rounds.tables c.in-Some.batch.now in
    kept_same p c.args.member.faults c.args.member.me.index c.args.log.now.state k c.apply.new.self c.requires.kept
    (unapplied k.rounds c.apply.new.self ws (finish_of p (held_code k.held) ws k.rounds.tables c.in-Some-verdict_at.verdict.now)
    (λ o. tolds k.rounds.tables.next ws o.ends) c.in_ok-told.ensures.state
    (sym (ap told_in c.in-NoAnswer.is) ∙ c.in_ok-told.ensures.told))

pub returns-in-Misfit-clause-range : goal.returns-in-Misfit-clause-range
returns-in-Misfit-clause-range g c =
    let p = programs_of (g.S.Service.table c.args.svc.now) (g.S.Service.beginning c.args.svc.now) in
    let k = c.args.keeping.now in
    let ws = wants p k.rounds.tables c.in-Some.batch.now in
    kept_same p c.args.member.faults c.args.member.me.index c.args.log.now.state k c.apply.new.self c.requires.kept
    (unapplied k.rounds c.apply.new.self ws (finish_of p (held_code k.held) ws k.rounds.tables c.in-Some-verdict_at.verdict.now)
    (λ o. tolds k.rounds.tables.next ws o.ends) c.in_ok-told.ensures.state
    (sym (ap told_in c.in-Misfit.is) ∙ c.in_ok-told.ensures.told))
