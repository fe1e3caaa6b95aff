use Rattle.std.proofs.Common.{◌≡◌, length, take, subst}
use Rattle.std.specs.Prelude.{OnErr}
use Rattle.applied_rounds.specs.States.{programs_of}
use Rattle.tier_model.specs.MidRows.{on_frame}
use Rattle.node_log.specs.Received.{on_bytes}
use Rattle.node_log.specs.Views.{seen_as}
use Rattle.node_log.proofs.Quiet.{unmoved}
use Rattle.node_log.proofs.Ready.{moved as ready}
use Rattle.mid_rounds.specs.Mids.{mid_of}
use Rattle.mid_node.proofs.Moved.{moved}
use Rattle.mid_node.proofs.QuietRows.{bytes_quiet}
use Rattle.mid_node.proofs.node_of.NodeOf.deliver.Goals as goal

pub returns-clause-moved : goal.returns-clause-moved
returns-clause-moved g c =
    moved (λ s. programs_of (g.S.Service.table s) (g.S.Service.beginning s)) c.member-member.result c.self.inside.node c.self.inside.depth
    c.self.inside.service c.args.self.now c.take_up-up.new.self c.settle.new.self c.take_up-up.result.value
    c.deref_mut.result.now c.receive-decided.new.up (g.D.Disk.state c.args.disk.now) (g.D.Disk.state c.settle.new.disk) c.args.out.now
    c.receive-decided.new.out c.settle.new.out c.receive-decided.result c.settle.result
    (λ u m x. on_bytes (λ from message σ. on_frame u m x σ from message) c.args.bytes.now)
    (record { faults = c.member-member.ensures.faults; index = c.member-member.ensures.index })
    c.self.view_is c.receive-decided.ensures
    (record {
      taken = c.take_up-up.ensures.taken;
      left = c.take_up-up.ensures.left;
      held_is = c.deref_mut.ensures.value;
      node = c.settle.ensures.node;
      packets = c.settle.ensures.packets;
      is_down = c.settle.ensures.down;
      taken_back = subst (λ z. OnErr c.settle.result (c.settle.new.out ≡ take (length z) c.receive-decided.new.out)) c.items-sent.ensures
          c.settle.ensures.taken_back;
      recorded = c.settle.ensures.recorded;
    })

pub returns-clause-quiet : goal.returns-clause-quiet
returns-clause-quiet g c =
    let m = programs_of (g.S.Service.table c.args.self.now.service) (g.S.Service.beginning c.args.self.now.service) in
    let self = c.args.self.now.node in
    unmoved (on_bytes (λ from message σ. on_frame self.faults m self.me σ from message) c.args.bytes.now) self
    (seen_as (mid_of c.settle.new.self.me) c.settle.new.self)
    (g.D.Disk.state c.args.disk.now) (g.D.Disk.state c.settle.new.disk) c.args.out.now
    c.settle.new.out c.settle.result c.requires.up (λ σ. bytes_quiet self.faults m self.me σ c.args.bytes.now)
    (returns-clause-moved g c)

pub returns-clause-ready : goal.returns-clause-ready
returns-clause-ready g c =
    let m = programs_of (g.S.Service.table c.args.self.now.service) (g.S.Service.beginning c.args.self.now.service) in
    let self = c.args.self.now.node in
    ready (on_bytes (λ from message σ. on_frame self.faults m self.me σ from message) c.args.bytes.now) self
    (seen_as (mid_of c.settle.new.self.me) c.settle.new.self)
    (g.D.Disk.state c.args.disk.now) (g.D.Disk.state c.settle.new.disk) c.args.out.now c.settle.new.out c.settle.result c.requires.up
    c.requires.disk (returns-clause-moved g c)
