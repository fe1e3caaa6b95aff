use Rattle.std.proofs.Common.{◌++◌, ap, ◌∙◌}
use Rattle.std.specs.List.{flat_map}
use Rattle.round_model.specs.Held.{highest}
use Rattle.tier_model.specs.MidRows.{haves}
use Rattle.node_log.specs.Packets.{all_sealed}
use Rattle.mid_rounds.proofs.ToldAgain.{haves_sealed}
use Rattle.mid_rounds.proofs.telling_again.have_again.Goals as goal

pub returns-clause-sent : goal.returns-clause-sent
returns-clause-sent c =
    c.in_ok-have_all_again.ensures.sent
    ∙ ap (λ codes. c.args.out.now ++ flat_map (λ e. all_sealed (haves c.args.member.faults c.args.member.me.index c.args.tier e.0 e.1)) codes)
    (c.deref.ensures.value ∙ c.in_ok-codes.ensures.codes)
    ∙ ap (λ sent. c.args.out.now ++ sent) (haves_sealed c.args.member.faults c.args.member.me.index c.args.tier (highest c.args.held.now c.args.tier))
