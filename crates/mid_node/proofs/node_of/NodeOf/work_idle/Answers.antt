use Rattle.applied_rounds.specs.States.{programs_of}
use Rattle.tier_model.specs.MidRows.{work}
use Rattle.mid_node.proofs.Moved.{idle_told}
use Rattle.mid_node.proofs.node_of.NodeOf.work_idle.Goals as goal

pub returns : goal.returns
returns g c = λ schedule.
    idle_told (λ s. programs_of (g.S.Service.table s) (g.S.Service.beginning s)) c.member.result c.self.inside.node c.self.inside.depth
    c.self.inside.service c.args.self.now c.working.result.now (λ u m x σ. work u m x σ schedule) c.work_idle.result
    (record { faults = c.member.ensures.faults; index = c.member.ensures.index }) c.self.view_is c.working.ensures (c.work_idle.ensures schedule)
