use Rattle.std.proofs.Common.{◌<◌, length, arith}
use Rattle.paxos_log.specs.TierLog.{joined}
use Rattle.paxos_log.proofs.Early.{before_told, before_after, past_told, past_after}
use Rattle.paxos_log.proofs.tier_log.TierLog.on_accepted.Goals as goal

pub returns-then-p-open-clause-turn : goal.returns-then-p-open-clause-turn
returns-then-p-open-clause-turn g c =
    let h : c.args.p < length c.self.inside.learner.learned = omega (arith, c.first_open-open.ensures.position) in
    before_told (record {
      faults = c.self.inside.learner.faults;
      me = c.self.inside.me;
      state = joined c.self.inside.acceptor c.self.inside.learner c.self.inside.leader;
    }) c.args.self.now c.args.from
    c.args.b c.args.p c.args.v.now c.idle.result c.self.view_is h c.idle.ensures

pub returns-then-p-open-clause-after : goal.returns-then-p-open-clause-after
returns-then-p-open-clause-after g c =
    let h : c.args.p < length c.self.inside.learner.learned = omega (arith, c.first_open-open.ensures.position) in
    before_after (record {
      faults = c.self.inside.learner.faults;
      me = c.self.inside.me;
      state = joined c.self.inside.acceptor c.self.inside.learner c.self.inside.leader;
    }) c.args.self.now c.args.from
    c.args.b c.args.p c.args.v.now c.self.view_is h

pub returns-then-p-open-2-clause-turn : goal.returns-then-p-open-2-clause-turn
returns-then-p-open-2-clause-turn g c =
    let h : c.first_open-open.result < c.args.p = omega arith in
    past_told (record {
      faults = c.self.inside.learner.faults;
      me = c.self.inside.me;
      state = joined c.self.inside.acceptor c.self.inside.learner c.self.inside.leader;
    }) c.args.self.now c.args.from
    c.args.b c.args.p c.args.v.now c.idle-then-p-open-2.result c.first_open-open.result c.self.view_is
    c.first_open-open.ensures.position h c.idle-then-p-open-2.ensures

pub returns-then-p-open-2-clause-after : goal.returns-then-p-open-2-clause-after
returns-then-p-open-2-clause-after g c =
    let h : length c.self.inside.learner.learned < c.args.p = omega (arith, c.first_open-open.ensures.position) in
    past_after (record {
      faults = c.self.inside.learner.faults;
      me = c.self.inside.me;
      state = joined c.self.inside.acceptor c.self.inside.learner c.self.inside.leader;
    }) c.args.self.now c.args.from
    c.args.b c.args.p c.args.v.now c.self.view_is h

pub invariant_of-self : goal.invariant_of-self
invariant_of-self g c = rw c.note.ensures (c.self.invariant.0, c.self.invariant.1, c.self.invariant.2)
