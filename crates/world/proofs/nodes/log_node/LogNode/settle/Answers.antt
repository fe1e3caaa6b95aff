use Rattle.std.proofs.Common.{◌∙◌, ap, length, subst, sym, Ok}
use Rattle.log_model.specs.Nodes.Mode.{Up}
use Rattle.world.specs.declared.nodes.working.Working.{Working}
use Rattle.world.specs.Parts.{Makes}
use Rattle.world.specs.LogNodes.{whole_turn, log_move, log_itself}
use Rattle.world.proofs.Turns.TurnsOfNodes.{seen, small, told_at, settled, written_down, failed, not_written, put_back}
use Rattle.world.proofs.Turns.TurnsOfNodes.{sent_none, facts_at, facts_short, sends_at}
use Rattle.world.proofs.nodes.log_node.LogNode.settle.Goals as goal

pub append-requires-clause-fit : goal.append-requires-clause-fit
append-requires-clause-fit g c = facts_at c.args.self.now (whole_turn c.args.up.value.log.state c.args.turn)
    c.of-record.result (c.of-record.ensures ∙ c.in_ok-facts.ensures) c.requires.range

pub append-requires-clause-short : goal.append-requires-clause-short
append-requires-clause-short g c = facts_short c.args.self.now (whole_turn c.args.up.value.log.state c.args.turn)
    c.of-record.result (c.of-record.ensures ∙ c.in_ok-facts.ensures) c.requires.range c.requires.short

pub send_all-requires-clause-fit : goal.send_all-requires-clause-fit
send_all-requires-clause-fit g c = sends_at
    (seen c.self.inside.faults c.self.inside.me c.self.inside.known c.self.inside.doubt c.self.inside.gone
    c.self.inside.up) c.args.self.now (whole_turn c.args.up.value.log.state c.args.turn) c.self.view_is c.requires.range

pub invariant_of-self : goal.invariant_of-self
invariant_of-self g c = put_back c.self.inside.faults c.self.inside.me c.self.inside.known c.self.inside.doubt
    c.self.inside.gone c.self.inside.up c.args.self.now c.self.view_is c.self.invariant c.requires.down c.requires.sure
    c.args.up.value c.append.new.self c.requires.own c.requires.range.state _
    (ap (λ (w : Working). record { log = w.log; journal = c.append.new.self }) c.deref_mut.ensures.value)

pub returns-in-Ok-clause-row : goal.returns-in-Ok-clause-row
returns-in-Ok-clause-row g c =
    let told = told_at c.deref_mut.result.now c.args.up.value c.append.new.self c.of-record.result
    (g.D.Disk.state c.args.disk.now) (g.D.Disk.state c.append.new.disk) c.append.result c.deref_mut.ensures.value
    (record {
      idle = c.append.ensures.idle;
      full = c.append.ensures.full;
      past = c.append.ensures.past;
      nothing_written = c.append.ensures.nothing_written;
      place = c.append.ensures.place;
      leaves = c.append.ensures.leaves;
      stopped = c.append.ensures.stopped;
      unmet = c.append.ensures.unmet;
      cause = c.append.ensures.cause;
    }) in
    subst (λ (w : Working). Makes log_itself c.args.self.now.part
    (record { mode = Up w.log.state; place = c.append.new.self; doubt = c.self.inside.doubt }) c.args.out.now
    c.send_all.new.out
    (log_move c.args.self.now.tier c.args.self.now.me (whole_turn c.args.up.value.log.state c.args.turn))
    (Ok c.answer_of.result)) (sym c.deref_mut.ensures.value) (
    settled (seen c.self.inside.faults c.self.inside.me c.self.inside.known c.self.inside.doubt c.self.inside.gone
    c.self.inside.up) c.args.self.now c.args.up.value c.args.turn c.append.new.self c.of-record.result
    (g.D.Disk.state c.args.disk.now) (g.D.Disk.state c.append.new.disk) c.args.out.now c.send_all.new.out
    c.answer_of.result c.append.result c.self.view_is
    (small c.self.inside.faults c.self.inside.me c.self.inside.known c.self.inside.doubt c.self.inside.gone
    c.self.inside.up c.args.self.now c.self.view_is c.self.invariant) c.requires.range c.requires.place
    (c.of-record.ensures ∙ c.in_ok-facts.ensures) told c.in-Ok.is c.in_ok-send_all.ensures c.answer_of.ensures)

pub returns-in-Ok-clause-disk : goal.returns-in-Ok-clause-disk
returns-in-Ok-clause-disk g c =
    let told = told_at c.deref_mut.result.now c.args.up.value c.append.new.self c.of-record.result
    (g.D.Disk.state c.args.disk.now) (g.D.Disk.state c.append.new.disk) c.append.result c.deref_mut.ensures.value
    (record {
      idle = c.append.ensures.idle;
      full = c.append.ensures.full;
      past = c.append.ensures.past;
      nothing_written = c.append.ensures.nothing_written;
      place = c.append.ensures.place;
      leaves = c.append.ensures.leaves;
      stopped = c.append.ensures.stopped;
      unmet = c.append.ensures.unmet;
      cause = c.append.ensures.cause;
    }) in
    written_down c.args.self.now c.args.up.value c.args.turn c.append.new.self c.of-record.result
    (g.D.Disk.state c.args.disk.now) (g.D.Disk.state c.append.new.disk) c.answer_of.result c.append.result
    c.requires.place (c.of-record.ensures ∙ c.in_ok-facts.ensures) told c.in-Ok.is

pub returns-clause-row : goal.returns-clause-row
returns-clause-row g c =
    let told = told_at c.deref_mut.result.now c.args.up.value c.append.new.self c.of-record.result
    (g.D.Disk.state c.args.disk.now) (g.D.Disk.state c.append.new.disk) c.append.result c.deref_mut.ensures.value
    (record {
      idle = c.append.ensures.idle;
      full = c.append.ensures.full;
      past = c.append.ensures.past;
      nothing_written = c.append.ensures.nothing_written;
      place = c.append.ensures.place;
      leaves = c.append.ensures.leaves;
      stopped = c.append.ensures.stopped;
      unmet = c.append.ensures.unmet;
      cause = c.append.ensures.cause;
    }) in
    failed (seen c.self.inside.faults c.self.inside.me c.self.inside.known c.self.inside.doubt c.self.inside.gone
    c.self.inside.up) c.args.self.now c.args.up.value c.args.turn c.append.new.self c.of-record.result
    (g.D.Disk.state c.args.disk.now) (g.D.Disk.state c.append.new.disk) c.args.out.now c.truncate.new.self
    c.append.result c.in-Err.error c.leaves_doubt-self-inside.result c.fault_of.result c.self.view_is
    c.requires.down c.requires.sure c.requires.place (c.of-record.ensures ∙ c.in_ok-facts.ensures) told c.in-Err.is
    c.leaves_doubt-self-inside.ensures c.fault_of.ensures
    (sent_none c.args.out.now _ c.send_all.new.out c.truncate.new.self _ c.in_ok-send_all.ensures
    (ap length c.items-before.ensures) c.truncate.ensures)

pub returns-clause-disk : goal.returns-clause-disk
returns-clause-disk g c =
    let told = told_at c.deref_mut.result.now c.args.up.value c.append.new.self c.of-record.result
    (g.D.Disk.state c.args.disk.now) (g.D.Disk.state c.append.new.disk) c.append.result c.deref_mut.ensures.value
    (record {
      idle = c.append.ensures.idle;
      full = c.append.ensures.full;
      past = c.append.ensures.past;
      nothing_written = c.append.ensures.nothing_written;
      place = c.append.ensures.place;
      leaves = c.append.ensures.leaves;
      stopped = c.append.ensures.stopped;
      unmet = c.append.ensures.unmet;
      cause = c.append.ensures.cause;
    }) in
    not_written c.args.self.now c.args.up.value c.args.turn c.append.new.self
    (seen c.self.inside.faults c.self.inside.me c.self.inside.known c.self.inside.doubt c.self.inside.gone
    c.self.inside.up).part.place c.of-record.result (g.D.Disk.state c.args.disk.now)
    (g.D.Disk.state c.append.new.disk) c.append.result c.in-Err.error c.fault_of.result c.requires.place
    (c.of-record.ensures ∙ c.in_ok-facts.ensures) told c.in-Err.is c.fault_of.ensures
