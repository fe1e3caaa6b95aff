use Rattle.std.proofs.Common.{◌∙◌}
use Rattle.node_log.proofs.Left.{ordered, restored_is, restored_own}
use Rattle.node_log.proofs.restoring.restored.Goals as goal

pub log_from-log-requires-clause-order : goal.log_from-log-requires-clause-order
log_from-log-requires-clause-order c = ordered c.args.me.tier c.args.facts.items c.deref.result.now (c.deref.ensures.value
    ∙ c.in_ok-facts.ensures) c.requires.fit

pub returns-clause-log : goal.returns-clause-log
returns-clause-log c = restored_is c.args.u c.args.me.index c.args.facts.items c.deref.result.now c.log_from-log.result (c.deref.ensures.value
    ∙ c.in_ok-facts.ensures) c.log_from-log.ensures

pub returns-clause-own : goal.returns-clause-own
returns-clause-own c =
    restored_own c.args.u c.args.me.tier c.args.me.index c.args.facts.items c.log_from-log.result c.requires.fit
    (restored_is c.args.u c.args.me.index c.args.facts.items c.deref.result.now c.log_from-log.result (c.deref.ensures.value
    ∙ c.in_ok-facts.ensures) c.log_from-log.ensures)
