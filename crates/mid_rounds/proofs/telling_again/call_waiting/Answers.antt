use Rattle.std.proofs.Common.{◌++◌, subst, sym, ap, ◌∙◌}
use Rattle.std.specs.List.{AllByRecursion, flat_map}
use Rattle.round_model.specs.Lists.{concat}
use Rattle.node_log.specs.Packets.{all_sealed}
use Rattle.mid_rounds.specs.Telling.{IsCallIn, call_unless_held}
use Rattle.mid_rounds.proofs.ToldAgain.{waiting_fit, waiting_sealed}
use Rattle.mid_rounds.proofs.telling_again.call_waiting.Goals as goal

pub call_all_again-requires-clause-fit : goal.call_all_again-requires-clause-fit
call_all_again-requires-clause-fit c =
    subst (AllByRecursion IsCallIn) (sym (c.deref.ensures.value ∙ c.in_ok-calls.ensures.calls))
    (waiting_fit (concat c.args.keeping.now.rounds.tables.queue) c.requires.fit)

pub returns-clause-sent : goal.returns-clause-sent
returns-clause-sent c =
    c.in_ok-call_all_again.ensures.sent
    ∙ ap (λ calls. c.args.out.now
    ++ flat_map (λ call. all_sealed (call_unless_held c.args.member.faults c.args.member.me.index c.args.keeping.now.held call)) calls)
    (c.deref.ensures.value ∙ c.in_ok-calls.ensures.calls)
    ∙ ap (λ sent. c.args.out.now ++ sent) (waiting_sealed c.args.member.faults c.args.member.me.index c.args.keeping.now.held
    (concat c.args.keeping.now.rounds.tables.queue) c.requires.fit c.parked.ensures.rise)
