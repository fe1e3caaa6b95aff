use Rattle.std.proofs.Common.{◌≡◌, length, take, subst}
use Rattle.std.specs.Prelude.{OnErr}
use Rattle.tier_model.specs.BackRows.{leads}
use Rattle.node_log.proofs.Quiet.{unmoved}
use Rattle.node_log.proofs.Ready.{moved as ready}
use Rattle.backend_node.specs.Backends.{backend_by}
use Rattle.backend_node.proofs.Moved.{moved}
use Rattle.backend_node.proofs.QuietRows.{leads_quiet}
use Rattle.backend_node.proofs.back_node.BackNode.lead.Goals as goal

pub returns-clause-moved : goal.returns-clause-moved
returns-clause-moved g c =
    let b = backend_by g.B.Backend.opening g.B.Backend.state_after g.B.Backend.code_of in
    moved c.member-member.result c.self.inside.node c.take_up-up.new.self c.settle.new.self c.args.self.now c.take_up-up.result.value
    c.deref_mut.result.now c.lead-decided.new.up (g.D.Disk.state c.args.disk.now) (g.D.Disk.state c.settle.new.disk) c.args.out.now
    c.lead-decided.new.out c.settle.new.out c.lead-decided.result c.settle.result (λ u t x. leads u b t x)
    (record { faults = c.member-member.ensures.faults; tier = c.member-member.ensures.tier; index = c.member-member.ensures.index })
    c.self.view_is c.lead-decided.ensures
    (record {
      taken = c.take_up-up.ensures.taken;
      left = c.take_up-up.ensures.left;
      held_is = c.deref_mut.ensures.value;
      node = c.settle.ensures.node;
      packets = c.settle.ensures.packets;
      is_down = c.settle.ensures.down;
      taken_back = subst (λ z. OnErr c.settle.result (c.settle.new.out ≡ take (length z) c.lead-decided.new.out)) c.items-sent.ensures
          c.settle.ensures.taken_back;
      recorded = c.settle.ensures.recorded;
    })

pub returns-clause-quiet : goal.returns-clause-quiet
returns-clause-quiet g c =
    let b = backend_by g.B.Backend.opening g.B.Backend.state_after g.B.Backend.code_of in
    let self = c.args.self.now in
    unmoved (leads self.faults b self.tier self.me) self _ (g.D.Disk.state c.args.disk.now) (g.D.Disk.state c.settle.new.disk) c.args.out.now
    c.settle.new.out c.settle.result c.requires.up (λ σ. leads_quiet self.faults b self.tier self.me σ)
    (returns-clause-moved g c)

pub returns-clause-ready : goal.returns-clause-ready
returns-clause-ready g c =
    let b = backend_by g.B.Backend.opening g.B.Backend.state_after g.B.Backend.code_of in
    let self = c.args.self.now in
    ready (leads self.faults b self.tier self.me) self _
    (g.D.Disk.state c.args.disk.now) (g.D.Disk.state c.settle.new.disk) c.args.out.now c.settle.new.out c.settle.result c.requires.up
    c.requires.disk (returns-clause-moved g c)
