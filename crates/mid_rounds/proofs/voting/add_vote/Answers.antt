use Rattle.std.proofs.Common.{ℕ, ap, ◌∙◌}
use Rattle.std.specs.Prelude.{not}
use Rattle.round_model.specs.Numbered.{put}
use Rattle.round_model.specs.Verdicts.{Vote}
use Rattle.tier_model.specs.MidRows.{is_in, with_own}
use Rattle.mid_rounds.specs.Mids.{claims_by}
use Rattle.mid_rounds.proofs.Votes.{joins_unless_in, own_joins, put_faults}
use Rattle.mid_rounds.proofs.voting.add_vote.Goals as goal

pub returns-clause-votes : goal.returns-clause-votes
returns-clause-votes c =
    let vote : ℕ → Vote = λ r. record { round = r; from = c.args.from; token = c.args.token.now; order = c.args.order.now } in
    own_joins c.args.tallies.now c.put.new.self (vote c.from-no.result) c.take_tally-tally.result c.add.new.self c.in_ok-added.added
    c.take_tally-tally.ensures.sorted c.take_tally-tally.ensures.claims c.in_ok-added.ensures.added c.in_ok-added.ensures.claims
    (c.in_ok-put.ensures.ok ∙ ap (λ z. put z c.from-no.result c.add.new.self) c.take_tally-tally.ensures.left)
    ∙ ap (λ (r : ℕ). with_own (claims_by c.args.tallies.now) (vote r)) c.from-no.ensures

pub returns-clause-range : goal.returns-clause-range
returns-clause-range c =
    put_faults c.args.member.faults c.args.tallies.now c.put.new.self c.from-no.result c.add.new.self c.requires.tallies
    (c.in_ok-added.ensures.faults ∙ c.take_tally-tally.ensures.faults)
    (c.in_ok-put.ensures.ok ∙ ap (λ z. put z c.from-no.result c.add.new.self) c.take_tally-tally.ensures.left)

pub returns-clause-added : goal.returns-clause-added
returns-clause-added c =
    let vote : ℕ → Vote = λ r. record { round = r; from = c.args.from; token = c.args.token.now; order = c.args.order.now } in
    joins_unless_in c.args.tallies.now (vote c.from-no.result) c.take_tally-tally.result c.in_ok-added.added c.take_tally-tally.ensures.claims
    c.in_ok-added.ensures.added
    ∙ ap (λ (r : ℕ). not (is_in (claims_by c.args.tallies.now) (vote r))) c.from-no.ensures
