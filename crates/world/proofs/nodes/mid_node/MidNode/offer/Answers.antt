use Rattle.std.proofs.Common.{◌≡◌, ◌∙◌, sym, subst, true, false, inl, inr, ap, Option, Err}
use Rattle.std.proofs.lemmas.Result.{err_from_is_err_and}
use Rattle.std.specs.Prelude.{◌⊎◌, option_copied}
use Rattle.log_model.specs.Rows.{offer}
use Rattle.log_values.specs.declared.any_value.AnyValue.{AnyValue}
use Rattle.round_model.specs.Lists.{is_some}
use Rattle.tier_model.specs.MidRows.{offers}
use Rattle.run_model.specs.BookingRuns.{booking_service}
use Rattle.world.specs.Parts.{MidView}
use Rattle.world.specs.LogNodes.{needs_own}
use Rattle.world.proofs.Turns.FewMessages.{offer_few}
use Rattle.world.proofs.Rows.MidRows.{mid_turns}
use Rattle.world.proofs.Rows.MidOffers.{offers_idle, offers_none, offers_row, offers_memory, range_at, wants_at, none_of, some_of}
use Rattle.world.proofs.nodes.mid_node.MidNode.offer.Goals as goal
use Rattle.world.proofs.nodes.mid_node.MidNode.offer.Goals.{else-is_none-via-then-is_none+else-needs_own, else-is_none-via-else-is_none}

pub returns-in_err-own : goal.returns-in_err-own
returns-in_err-own g c =
    let p = err_from_is_err_and c.from_residual.result c.from_residual.ensures.1 in
    offers_memory c.args.self.now (g.D.Disk.state c.args.disk.now) c.args.out.now c.from_residual.result
    (ap (λ (z : MidView). z.tier) (sym c.self.view_is))
    (range_at c.self.inside.node c.self.inside.depth c.self.inside.pending c.args.self.now c.self.view_is
    c.self.invariant.0 c.wants-wants.ensures.range) c.own_value.ensures.stands (p.1 ∙ ap Err p.2)

pub returns-in-Some : goal.returns-in-Some
returns-in-Some g c = offers_idle c.args.self.now (g.D.Disk.state c.args.disk.now) c.args.out.now c.wants-wants.result
    c.in-Some.cause (wants_at c.self.inside.node c.self.inside.depth c.self.inside.pending c.args.self.now
    c.wants-wants.result c.self.view_is c.wants-wants.ensures.offering) (sym c.offer_cause.ensures ∙ c.in-Some.is)

pub returns-then-needs_own : goal.returns-then-needs_own
returns-then-needs_own g c =
    offers_none c.args.self.now (g.D.Disk.state c.args.disk.now) c.args.out.now c.wants-wants.result c.in_ok-own.own
    c.own_cause.result (wants_at c.self.inside.node c.self.inside.depth c.self.inside.pending c.args.self.now
    c.wants-wants.result c.self.view_is c.wants-wants.ensures.offering) (sym c.needs_own.ensures
    ∙ c.if-needs_own.true) c.in_ok-own.ensures.value
    (none_of c.in_ok-own.own c.is_none.result c.is_none.ensures c.if-is_none.true) c.own_cause.ensures

pub returns : goal.returns
returns g c =
    let k : (is_some c.in_ok-own.own ≡ true) ⊎ (needs_own c.wants-wants.result ≡ false) = elim c.else-is_none.branch [
      | else-is_none-via-then-is_none+else-needs_own w ↦ inr (sym w.needs_own.ensures ∙ w.if-needs_own.false)
      | else-is_none-via-else-is_none w ↦ inl (some_of c.in_ok-own.own c.is_none.result c.is_none.ensures w.if-is_none.false)
    ] in
    mid_turns c.self.inside.depth c.self.inside.pending c.self.inside.node c.offer.new.self c.args.self.now
    (g.D.Disk.state c.args.disk.now) (g.D.Disk.state c.offer.new.disk) c.args.out.now c.offer.new.out
    (λ log. offer c.self.inside.node.faults c.self.inside.node.me log (option_copied c.as_ref.result))
    (λ u x σ. offers u booking_service.programs x σ) c.offer.result c.self.view_is
    c.self.invariant.0 c.self.invariant.1 c.self.invariant.2 c.offer.ensures
    (λ log. offer_few c.self.inside.node.faults c.self.inside.node.me log (option_copied c.as_ref.result))
    (offers_row c.self.inside.node c.self.inside.depth c.self.inside.pending c.args.self.now c.wants-wants.result
    (option_copied c.as_ref.result) c.self.view_is c.wants-wants.ensures.offering (sym c.offer_cause.ensures
    ∙ c.in_default.is) (λ part e. c.as_ref.ensures.value ∙ c.in_ok-own.ensures.value part e)
    (subst (λ (z : Option AnyValue). (is_some z ≡ true) ⊎ (needs_own c.wants-wants.result ≡ false)) (sym c.as_ref.ensures.value) k))
