use Rattle.std.proofs.Common.{arith, subst, sym}
use Rattle.std.proofs.lemmas.Grind.{common_steps}
use Rattle.fact_journal.specs.Fitting.{FactsFit}
use Rattle.row_laws.specs.Mids.{IsHeldIn}
use Rattle.mid_rounds.proofs.CaughtUp.{held_whole}
use Rattle.mid_rounds.proofs.restoring.restored_held.Goals as goal

pub returns-clause-held : goal.returns-clause-held
returns-clause-held c = grind (arith, common_steps, c.loop-fact.invariant, c.loop-fact-test.false)

pub returns-clause-range : goal.returns-clause-range
returns-clause-range c =
    subst (IsHeldIn c.args.member.faults c.args.member.me.index) (sym (returns-clause-held c))
    (held_whole c.args.member.faults c.args.member.me.index c.args.facts.now (subst (λ t. FactsFit t 0 c.args.facts.now) c.requires.member.tier c.requires.fit))
