-- What an offer answers.
use Rattle.std.proofs.Common.{◌≡◌, ℕ, Bool, true, false, ◌&&◌, not, cond, sym, ap, subst, Option, Some, None}
use Rattle.aeg_base.specs.declared.names.Tier.{Tier}
use Rattle.log_model.specs.declared.turn.Offering.{Offering}
use Rattle.log_model.specs.declared.turn.Offering.TheVariants.{NotLeader, NoPromises, InFlight, LogFull, Taken, Free}
use Rattle.log_model.specs.Rows.{offer, wants}
use Rattle.log_values.specs.declared.any_value.AnyValue.{AnyValue}
use Rattle.tier_model.specs.declared.turn.Idle.{Idle}
use Rattle.tier_model.specs.declared.turn.Idle.TheVariants as why
use Rattle.round_model.specs.Lists.{is_some}
use Rattle.round_model.specs.Service.{Backend}
use Rattle.tier_model.specs.Moves.{Move, idles, log_answer, offer_cause}
use Rattle.tier_model.specs.Back.{Back, in_log}
use Rattle.tier_model.specs.BackRows.{offers, offers_as, own_value}
use Rattle.node_log.specs.Packets.{needs_own}
use Rattle.node_log.proofs.Quiet.{offer_none}
use Rattle.node_log.specs.Deciding.{idle_in}
use Rattle.backend_node.specs.Deciding.{}

module _ {B : Type 0} (u : ℕ) (b : Backend B) (t : Tier) (x : ℕ) (σ : Back B) where
  abbrev offered : Move (Back B)
  offered = in_log u b t x σ (offer u x σ.log (own_value σ))

  is_offered : idle_in offered.answer ≡ None
  is_offered = ap (λ o. idle_in (log_answer o)) (offer_none u x σ.log (own_value σ))

  same_cause : (a c : Idle) → ◌≡◌ {A = Option Idle} (Some a) (Some c) → Some c ≡ idle_in (idles σ a).answer
  same_cause a c e = sym e

  -- what stands in the way of it is its cause
  pub caused : (w : Offering) (cause : Idle) → w ≡ wants u σ.log → offer_cause w ≡ Some cause → Some cause ≡ idle_in (offers u b t x σ).answer
  caused w cause is e = subst (λ z. Some cause ≡ idle_in (offers_as u b t x σ z).answer) is (go w e)
    where
      go : (w : Offering) → offer_cause w ≡ Some cause → Some cause ≡ idle_in (offers_as u b t x σ w).answer
      go NotLeader e = same_cause why.NotLeader cause e
      go (NoPromises have) e = same_cause (why.NoPromises have) cause e
      go (InFlight p) e = same_cause (why.InFlight p) cause e
      go LogFull e = same_cause why.LogFull cause e
      go Taken e = absurd cc
      go (Free p) e = absurd cc

  free : (some : Bool) → not some ≡ false → None ≡ idle_in (cond {A = Move (Back B)} some offered (idles σ why.Nothing)).answer
  free true e = sym is_offered
  free false e = absurd cc

  -- nothing stands in the way
  pub goes : (w : Offering) (own : Option AnyValue) → w ≡ wants u σ.log → offer_cause w ≡ None → own ≡ own_value σ → (needs_own w && not (is_some own)) ≡ false
      → None ≡ idle_in (offers u b t x σ).answer
  goes w own is e own_is has = subst (λ z. None ≡ idle_in (offers_as u b t x σ z).answer) is
      (go w e (subst (λ z. (needs_own w && not (is_some z)) ≡ false) own_is has))
    where
      go : (w : Offering) → offer_cause w ≡ None → (needs_own w && not (is_some (own_value σ))) ≡ false → None ≡ idle_in (offers_as u b t x σ w).answer
      go NotLeader e h = absurd cc
      go (NoPromises have) e h = absurd cc
      go (InFlight p) e h = absurd cc
      go LogFull e h = absurd cc
      go Taken e h = sym is_offered
      go (Free p) e h = free (is_some (own_value σ)) h
