use Rattle.std.proofs.Common.{◌≡◌, ◌∙◌, sym, ap, length, arith, Some, option_copied, option_map}
use Rattle.log_model.specs.Rows.{wants}
use Rattle.paxos_log.specs.Parts.{offered_by}
use Rattle.paxos_log.specs.TierLog.{CanOffer, as_leader, joined}
use Rattle.paxos_log.proofs.Rows.{can_at, offer_after, offer_told, offer_ballot, sent_led, offered_state, offered_turn}
use Rattle.paxos_log.proofs.tier_log.TierLog.offer.Goals as goal

pub invariant_of-self : goal.invariant_of-self
invariant_of-self g c =
    let e : Some (c.in-Some.offered.0, c.in-Some.offered.1)
    ≡ offered_by (option_map as_leader c.self.inside.leader) c.first_open-at.result (option_copied c.args.own) = sym
    c.in-Some.is ∙ c.in_ok-offered.ensures in
    let at : c.first_open-at.result ≡ length c.self.inside.learner.learned = c.first_open-at.ensures.position in
    rw (c.vote.ensures, c.note_sent.ensures) (
      c.self.invariant.0,
      sent_led c.self.inside.acceptor c.self.inside.learner c.self.inside.leader c.in-Some.offered.0
          c.first_open-at.result c.in-Some.offered.1 c.self.invariant.1
          (offer_ballot c.self.inside.acceptor c.self.inside.learner c.self.inside.leader c.first_open-at.result
          (option_copied c.args.own) c.in-Some.offered.0 c.in-Some.offered.1 c.self.invariant.1 (sym e)),
      omega (arith, at),
    )

pub returns-clause-turn : goal.returns-clause-turn
returns-clause-turn g c =
    let e : Some (c.in-Some.offered.0, c.in-Some.offered.1)
    ≡ offered_by (option_map as_leader c.self.inside.leader) c.first_open-at.result (option_copied c.args.own) = sym
    c.in-Some.is ∙ c.in_ok-offered.ensures in
    let can : CanOffer (wants c.self.inside.learner.faults
    (joined c.self.inside.acceptor c.self.inside.learner c.self.inside.leader)) (option_copied c.args.own) = can_at
    _ c.args.self.now (option_copied c.args.own) c.self.view_is c.requires in
    offer_told (record {
      faults = c.self.inside.learner.faults;
      me = c.self.inside.me;
      state = joined c.self.inside.acceptor c.self.inside.learner c.self.inside.leader;
    }) c.args.self.now
    c.in_ok-out.out (option_copied c.args.own) c.self.view_is
    (offered_turn c.self.inside.learner.faults c.self.inside.me c.self.inside.acceptor c.self.inside.learner
    c.self.inside.leader (option_copied c.args.own) c.in-Some.offered.0 c.first_open-at.result c.in-Some.offered.1
    can e c.first_open-at.ensures.position c.faults.result c.in_ok-out.out c.faults.ensures.number c.in_ok-out.ensures)

pub returns-clause-after : goal.returns-clause-after
returns-clause-after g c =
    let e : Some (c.in-Some.offered.0, c.in-Some.offered.1)
    ≡ offered_by (option_map as_leader c.self.inside.leader) c.first_open-at.result (option_copied c.args.own) = sym
    c.in-Some.is ∙ c.in_ok-offered.ensures in
    let can : CanOffer (wants c.self.inside.learner.faults
    (joined c.self.inside.acceptor c.self.inside.learner c.self.inside.leader)) (option_copied c.args.own) = can_at
    _ c.args.self.now (option_copied c.args.own) c.self.view_is c.requires in
    offer_after (record {
      faults = c.self.inside.learner.faults;
      me = c.self.inside.me;
      state = joined c.self.inside.acceptor c.self.inside.learner c.self.inside.leader;
    }) c.args.self.now _
    (option_copied c.args.own) c.self.view_is
    (ap (λ s. record { faults = c.self.inside.learner.faults; me = c.self.inside.me; state = s })
    (offered_state c.self.inside.learner.faults c.self.inside.me c.self.inside.acceptor c.vote.new.self
    c.self.inside.learner c.self.inside.leader c.note_sent.new.leader (option_copied c.args.own) c.in-Some.offered.0
    c.first_open-at.result c.in-Some.offered.1 can c.self.invariant.1 e c.first_open-at.ensures.position
    c.vote.ensures c.note_sent.ensures))
