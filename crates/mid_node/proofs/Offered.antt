-- What a middle node's offer answers.
use Rattle.std.proofs.Common.{◌≡◌, ℕ, Bool, true, false, ◌&&◌, not, cond, List, [], refl, sym, ap, ◌∙◌, subst, append-nil, Option, None, Ok}
use Rattle.aeg_base.specs.declared.names.End.{End}
use Rattle.log_model.specs.declared.turn.Offering.{Offering}
use Rattle.log_model.specs.declared.turn.Offering.TheVariants.{NotLeader, NoPromises, InFlight, LogFull, Taken, Free}
use Rattle.log_model.specs.Rows.{offer, wants}
use Rattle.log_values.specs.declared.any_value.AnyValue.{AnyValue}
use Rattle.tier_model.specs.declared.turn.Idle.{Idle}
use Rattle.tier_model.specs.declared.turn.Turn.TheVariants as answers
use Rattle.round_model.specs.Lists.{is_some}
use Rattle.round_model.specs.Service.{Programs}
use Rattle.tier_model.specs.Moves.{Move, idles, log_answer, offer_cause}
use Rattle.tier_model.specs.Mid.{Mid, in_log}
use Rattle.tier_model.specs.MidRows.{offers, offers_as, own_cause, own_value}
use Rattle.node_log.specs.declared.decided.Decided.{Decided}
use Rattle.node_log.specs.declared.member.Member.{Member}
use Rattle.node_log.specs.declared.working.Working.{Working}
use Rattle.node_log.specs.Deciding.{idle_in}
use Rattle.node_log.specs.Packets.{needs_own}
use Rattle.node_log.proofs.Quiet.{offer_none}
use Rattle.mid_rounds.specs.declared.keeping.Keeping.{Keeping}
use Rattle.mid_rounds.specs.Deciding.{DecidesMove, IsInRange, mid_in}
use Rattle.mid_rounds.proofs.DecidedMoves.{without_facts}

module _ (u : ℕ) (p : Programs) (x : ℕ) (σ : Mid) where
  abbrev offered : Move Mid
  offered = in_log u p x σ (offer u x σ.log (own_value u p σ))

  is_offered : idle_in offered.answer ≡ None
  is_offered = ap (λ o. idle_in (log_answer o)) (offer_none u x σ.log (own_value u p σ))

  free : (some : Bool) → not some ≡ false → None ≡ idle_in (cond {A = Move Mid} some offered (idles σ (own_cause u σ))).answer
  free true e = sym is_offered
  free false e = absurd cc

  -- nothing stands in the way
  pub goes : (w : Offering) (own : Option AnyValue) → w ≡ wants u σ.log → offer_cause w ≡ None → own ≡ own_value u p σ
      → (needs_own w && not (is_some own)) ≡ false → None ≡ idle_in (offers u p x σ).answer
  goes w own is e own_is has = subst (λ z. None ≡ idle_in (offers_as u p x σ z).answer) is
      (go w e (subst (λ z. (needs_own w && not (is_some z)) ≡ false) own_is has))
    where
      go : (w : Offering) → offer_cause w ≡ None → (needs_own w && not (is_some (own_value u p σ))) ≡ false → None ≡ idle_in (offers_as u p x σ w).answer
      go NotLeader e h = absurd cc
      go (NoPromises have) e h = absurd cc
      go (InFlight n) e h = absurd cc
      go LogFull e h = absurd cc
      go Taken e h = sym is_offered
      go (Free n) e h = free (is_some (own_value u p σ)) h

  lacks_some : (some : Bool) → not some ≡ true → cond {A = Move Mid} some offered (idles σ (own_cause u σ)) ≡ idles σ (own_cause u σ)
  lacks_some true e = absurd cc
  lacks_some false e = refl

  -- it wants a value of its own, and has none
  lacks : (w : Offering) (own : Option AnyValue) → w ≡ wants u σ.log → own ≡ own_value u p σ → (needs_own w && not (is_some own)) ≡ true
      → offers u p x σ ≡ idles σ (own_cause u σ)
  lacks w own is own_is has = subst (λ z. offers_as u p x σ z ≡ idles σ (own_cause u σ)) is
      (go w (subst (λ z. (needs_own w && not (is_some z)) ≡ true) own_is has))
    where
      go : (w : Offering) → (needs_own w && not (is_some (own_value u p σ))) ≡ true → offers_as u p x σ w ≡ idles σ (own_cause u σ)
      go NotLeader h = absurd cc
      go (NoPromises have) h = absurd cc
      go (InFlight n) h = absurd cc
      go LogFull h = absurd cc
      go Taken h = absurd cc
      go (Free n) h = lacks_some (is_some (own_value u p σ)) h

-- so it is idle, and tells why
pub lacked : (p : Programs) (m : Member) (old : Working Keeping) (before : List (End × List ℕ)) (d : Decided) (w : Offering) (own : Option AnyValue)
    (cause : Idle) → IsInRange p m old → w ≡ wants m.faults old.log.state → own ≡ own_value m.faults p (mid_in m old)
    → (needs_own w && not (is_some own)) ≡ true → cause ≡ own_cause m.faults (mid_in m old) → d.facts.items ≡ [] → d.answer ≡ answers.Idle cause
    → DecidesMove p m (offers m.faults p m.me.index (mid_in m old)) old old before before (Ok d)
lacked p m old before d w own cause range is own_is has cause_is none idle =
    subst (λ (z : Move Mid). DecidesMove p m z old old before before (Ok d)) (sym (lacks m.faults p m.me.index (mid_in m old) w own is own_is has))
    (without_facts p m (idles (mid_in m old) (own_cause m.faults (mid_in m old))) old old before before d none refl (idle ∙ ap answers.Idle cause_is) refl
    (sym (append-nil before)) refl range)
