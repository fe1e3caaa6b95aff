use Rattle.std.proofs.Common.{sym, ◌∙◌, arith}
use Rattle.round_model.proofs.HeldLaws.{floor_is}
use Rattle.resp_durable.proofs.answers.Answers.raise.Goals as goal

pub returns-else-self-lt4294967295-clause-floor : goal.returns-else-self-lt4294967295-clause-floor
returns-else-self-lt4294967295-clause-floor c = let kept = c.loop-replica.invariant in
    record {
      sorted = c.is_usable_at.ensures.sorted;
      least = sym (floor_is c.args.replica.faults c.args.replica.me c.loop-replica.self.table c.loop-replica.self.floor
          c.is_usable_at.ensures.sorted kept.first kept.last kept.below (λ lt. absurd (omega (arith, c.if-self-lt4294967295.false))));
    }

pub returns-after-loop-replica-clause-floor : goal.returns-after-loop-replica-clause-floor
returns-after-loop-replica-clause-floor c = let kept = c.loop-replica.invariant in
    record {
      sorted = c.is_usable_at.ensures.sorted;
      least = sym (floor_is c.args.replica.faults c.args.replica.me c.loop-replica.self.table c.loop-replica.self.floor
          c.is_usable_at.ensures.sorted kept.first kept.last kept.below (λ lt. sym c.is_usable_at.ensures.answer ∙ c.loop-replica-test.false));
    }
