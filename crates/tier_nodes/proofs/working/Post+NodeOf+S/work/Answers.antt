use Rattle.std.proofs.Common.{refl}
use Rattle.applied_rounds.specs.States.{programs_of}
use Rattle.mid_rounds.proofs.Services.{programs_in}
use Rattle.mid_rounds.specs.Mids.{steps_in}
use Rattle.tier_model.specs.MidRows.{work}
use Rattle.tier_nodes.proofs.Answered.{tells}
use Rattle.tier_nodes.proofs.Seated.{at_up, seen_up}
use Rattle.tier_nodes.proofs.Works.{work_silent}
use Rattle.tier_nodes.specs.MidRows.{IsInRange, IsMidNode, log_of, working}
use Rattle.tier_nodes.specs.Seats.{seat_of}
use Rattle.tier_nodes.proofs.working.Post+NodeOf+S.work.Goals as goal

pub returns-clause-tells : goal.returns-clause-tells
returns-clause-tells g c =
    let node = c.args.self.now.node in
    let s = node.service in
    let p = programs_of (g.S.Service.table s) (g.S.Service.beginning s) in
    let old = seat_of (λ n. n.node) c.args.self.now in
    let steps = steps_in c.work.result in
    let member : IsMidNode node = record { few = c.keep.ensures.few; node = c.keep.ensures.node; tier = c.keep.ensures.tier; depth = c.keep.ensures.depth } in
    tells (IsInRange p node) log_of old _ c.args.out.now c.work.new.out (λ σ. work node.node.faults p node.node.me σ steps) c.work.result
    (seen_up old c.requires.up)
    (λ σ e. working p (programs_in (g.S.Service.table s) (g.S.Service.beginning s) (λ who body stage. g.met.S.Service.folds s who body stage)
    (λ who body stage asked. g.met.S.Service.proper s who body stage asked) (λ who body stage. g.met.S.Service.again s who body stage)) node σ steps member
    (at_up (IsInRange p node) old.view.up σ e c.keep.ensures.state))
    (λ σ. work_silent node.node.faults p node.node.me σ steps) c.work.ensures.told refl refl

pub returns-clause-given : goal.returns-clause-given
returns-clause-given g c schedule e =
    let node = c.args.self.now.node in
    let s = node.service in
    let p = programs_of (g.S.Service.table s) (g.S.Service.beginning s) in
    let old = seat_of (λ n. n.node) c.args.self.now in
    let member : IsMidNode node = record { few = c.keep.ensures.few; node = c.keep.ensures.node; tier = c.keep.ensures.tier; depth = c.keep.ensures.depth } in
    tells (IsInRange p node) log_of old _ c.args.out.now c.work.new.out (λ σ. work node.node.faults p node.node.me σ schedule) c.work.result
    (seen_up old c.requires.up)
    (λ σ f. working p (programs_in (g.S.Service.table s) (g.S.Service.beginning s) (λ who body stage. g.met.S.Service.folds s who body stage)
    (λ who body stage asked. g.met.S.Service.proper s who body stage asked) (λ who body stage. g.met.S.Service.again s who body stage)) node σ schedule member
    (at_up (IsInRange p node) old.view.up σ f c.keep.ensures.state))
    (λ σ. work_silent node.node.faults p node.node.me σ schedule) (c.work.ensures.given schedule e) refl refl
