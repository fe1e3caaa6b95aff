use Rattle.std.proofs.Common.{Ok}
use Rattle.applied_rounds.specs.States.{programs_of}
use Rattle.tier_model.specs.MidRows.{work}
use Rattle.node_log.specs.Views.{seen_as}
use Rattle.mid_rounds.specs.Mids.{mid_of, steps_in}
use Rattle.mid_node.proofs.Moved.{quiet_told, told}
use Rattle.mid_node.proofs.QuietRows.{work_quiet}
use Rattle.mid_node.proofs.node_of.NodeOf.work.Goals as goal

pub returns-in-Ok-clause-told : goal.returns-in-Ok-clause-told
returns-in-Ok-clause-told g c =
    told (λ s. programs_of (g.S.Service.table s) (g.S.Service.beginning s)) c.member-member.result c.self.inside.node c.self.inside.depth
    c.self.inside.service c.args.self.now c.take_up-up.new.self c.put_back.new.self c.take_up-up.result.value c.deref_mut.result.now c.work.new.up
    c.args.out.now c.work.new.out c.in-Ok.decided (λ u m x σ. work u m x σ (steps_in (Ok c.in-Ok.decided.answer)))
    (record { faults = c.member-member.ensures.faults; index = c.member-member.ensures.index }) c.self.view_is c.in-Ok.ensures.told
    c.take_up-up.ensures.taken c.take_up-up.ensures.left c.deref_mut.ensures.value c.put_back.ensures

pub returns-in-Ok-clause-given : goal.returns-in-Ok-clause-given
returns-in-Ok-clause-given g c = λ schedule e.
    told (λ s. programs_of (g.S.Service.table s) (g.S.Service.beginning s)) c.member-member.result c.self.inside.node c.self.inside.depth
    c.self.inside.service c.args.self.now c.take_up-up.new.self c.put_back.new.self c.take_up-up.result.value c.deref_mut.result.now c.work.new.up
    c.args.out.now c.work.new.out c.in-Ok.decided (λ u m x σ. work u m x σ schedule)
    (record { faults = c.member-member.ensures.faults; index = c.member-member.ensures.index }) c.self.view_is (c.in-Ok.ensures.given schedule e)
    c.take_up-up.ensures.taken c.take_up-up.ensures.left c.deref_mut.ensures.value c.put_back.ensures

pub returns-in-Ok-clause-quiet : goal.returns-in-Ok-clause-quiet
returns-in-Ok-clause-quiet g c =
    let m = programs_of (g.S.Service.table c.args.self.now.service) (g.S.Service.beginning c.args.self.now.service) in
    let self = c.args.self.now.node in
    let steps = steps_in (Ok c.in-Ok.decided.answer) in
    quiet_told (λ σ. work self.faults m self.me σ steps) self (seen_as (mid_of c.put_back.new.self.me) c.put_back.new.self) c.args.out.now
    c.work.new.out c.in-Ok.decided.answer c.requires (λ σ. work_quiet self.faults m self.me σ steps) (returns-in-Ok-clause-told g c)
