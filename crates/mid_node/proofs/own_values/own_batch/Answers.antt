use Rattle.std.proofs.Common.{◌≡◌, ap, ◌∙◌, Some}
use Rattle.applied_rounds.specs.States.{programs_of}
use Rattle.log_values.specs.declared.any_value.AnyValue.TheVariants.{Mid}
use Rattle.log_values.specs.declared.mid_value.MidValue.TheVariants.{Batch}
use Rattle.tier_model.specs.MidRows.{own_batch}
use Rattle.mid_rounds.specs.Deciding.{mid_in}
use Rattle.mid_node.proofs.OwnValues.{empties, fresh_batch, no_batch, waiting_batch}
use Rattle.mid_node.proofs.own_values.own_batch.Goals.{else-is_empty-via-then-is_empty+else-not-waits, else-is_empty-via-else-is_empty}
use Rattle.mid_node.proofs.own_values.own_batch.Goals as goal

pub returns-then-not-waits : goal.returns-then-not-waits
returns-then-not-waits g c =
    no_batch (programs_of (g.S.Service.table c.args.svc.now) (g.S.Service.beginning c.args.svc.now)) (mid_in c.args.member c.args.up.now) c.args.round
    c.in_ok-batch.batch.items c.applied.result c.is_empty.result c.waits.result c.applied.ensures.is c.if-applied-round.false c.in_ok-batch.ensures
    (empties c.in_ok-batch.batch.items c.in_ok-batch.batch.len c.is_empty.result c.in_ok-batch.batch.ok.0 c.is_empty.ensures) c.if-is_empty.true
    c.waits.ensures c.if-not-waits.true

pub returns : goal.returns
returns g c =
    let p = programs_of (g.S.Service.table c.args.svc.now) (g.S.Service.beginning c.args.svc.now) in
    let σ = mid_in c.args.member c.args.up.now in
    let empty = empties c.in_ok-batch.batch.items c.in_ok-batch.batch.len c.is_empty.result c.in_ok-batch.batch.ok.0 c.is_empty.ensures in
    let told : Some (Mid (Batch c.in_ok-batch.batch.items)) ≡ own_batch p σ c.args.round = elim c.else-is_empty.branch [
      | else-is_empty-via-then-is_empty+else-not-waits w ↦ waiting_batch p σ c.args.round c.in_ok-batch.batch.items c.applied.result c.is_empty.result
          w.waits.result c.applied.ensures.is c.if-applied-round.false c.in_ok-batch.ensures empty w.if-is_empty.true w.waits.ensures
          w.if-not-waits.false
      | else-is_empty-via-else-is_empty w ↦ fresh_batch p σ c.args.round c.in_ok-batch.batch.items c.applied.result c.is_empty.result
          c.applied.ensures.is c.if-applied-round.false c.in_ok-batch.ensures empty w.if-is_empty.false
    ] in
    ap (λ z. Some (Mid (Batch z))) c.of.ensures ∙ told
