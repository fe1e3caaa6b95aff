use Rattle.std.proofs.Common.{◌∙◌, sym, subst, false, Ok}
use Rattle.log_model.specs.Log.{open_at}
use Rattle.log_model.specs.Recover.{recover}
use Rattle.log_model.specs.Nodes.Mode.{Up}
use Rattle.tier_model.specs.Moves.{log_facts}
use Rattle.world.specs.Parts.{Reads}
use Rattle.world.specs.LogNodes.{log_itself}
use Rattle.world.specs.declared.nodes.working.Working.{Working}
use Rattle.paxos_log.specs.TierLog.{AreInOrder}
use Rattle.fact_journal.proofs.Restoring.{in_order}
use Rattle.world.proofs.Turns.RestoredLogs.{works_again, restart_reads}
use Rattle.world.proofs.nodes.log_node.LogNode.restart.Goals as goal

pub restore-requires-clause-order : goal.restore-requires-clause-order
restore-requires-clause-order g c = subst (AreInOrder 0) (sym (c.deref.ensures.value ∙ c.in_ok-log_facts.ensures))
    (in_order c.self.inside.me.tier 0 c.in-Ok.opened.1.items c.in-Ok.ensures.fit)

pub invariant_of-self : goal.invariant_of-self
invariant_of-self g c =
    works_again c.self.inside.faults c.self.inside.me c.self.inside.known c.self.inside.doubt c.self.inside.gone
    c.self.inside.up c.args.self.now c.self.view_is c.self.invariant c.requires.down c.new-log.result
    c.restore.new.self c.deref.result.now c.in-Ok.opened.1.items c.in-Ok.opened.0 (g.D.Disk.state c.args.disk.now)
    (g.D.Disk.state c.open_on.new.disk) c.in-Ok.opened.0
    c.new-log.ensures c.in_ok-restore.ensures.after (c.deref.ensures.value ∙ c.in_ok-log_facts.ensures)
    c.in-Ok.ensures.one_list c.requires.disk c.in_ok-at_work.field-0 c.in_ok-at_work.ensures

pub returns-clause-reads : goal.returns-clause-reads
returns-clause-reads g c =
    λ lists stands all. subst
    (λ (w : Working). Reads c.args.self.now.tier log_itself open_at
    (λ facts. recover c.args.self.now.faults (log_facts facts)) c.args.self.now.part
    (record { mode = Up w.log.state; place = w.journal; doubt = false }) (g.D.Disk.state c.args.disk.now)
    (g.D.Disk.state c.open_on.new.disk) lists (Ok c.list_found-found.result)) (sym c.in_ok-at_work.ensures) (
    restart_reads c.self.inside.faults c.self.inside.me c.self.inside.known c.self.inside.doubt c.self.inside.gone
    c.self.inside.up c.args.self.now c.self.view_is c.requires.down c.new-log.result c.restore.new.self
    c.deref.result.now c.in-Ok.opened.1.items (g.D.Disk.state c.args.disk.now) (g.D.Disk.state c.open_on.new.disk)
    c.in-Ok.opened.0 c.place.result c.list_found-found.result
    c.new-log.ensures c.in_ok-restore.ensures.after (c.deref.ensures.value ∙ c.in_ok-log_facts.ensures) c.place.ensures
    c.list_found-found.ensures c.in-Ok.ensures.one_list lists stands all)
