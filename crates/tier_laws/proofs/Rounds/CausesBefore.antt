-- When a verdict is chosen, what it needs was already there before the event.
use Rattle.std.proofs.Common.{◌≡◌, ℕ, ◌+◌, ◌*◌, ◌<◌, ◌≤◌, false, List, [], ◌∷◌, ◌++◌, length, refl, sym, ap, ◌∙◌, subst, inl, inr, Option, Some, None, arith}
use Rattle.std.specs.Prelude.{slice_get, ◌⊎◌}
use Rattle.std.proofs.lemmas.Option.{slice_get_within}
use Rattle.aeg_base.specs.declared.names.Tier.{Tier}
use Rattle.aeg_base.specs.declared.names.Tier.TheVariants.{Inv, Pay, Mid as MidTier}
use Rattle.log_model.specs.Chosen.{Meets}
use Rattle.log_values.specs.declared.any_value.AnyValue.{AnyValue}
use Rattle.log_values.specs.declared.any_value.AnyValue.TheVariants.{Mid as OfMid}
use Rattle.log_values.specs.declared.mid_value.MidValue.TheVariants.{Verdict as Decided}
use Rattle.log_values.specs.declared.mid_value.Verdict.{Verdict}
use Rattle.round_model.specs.After.{round}
use Rattle.run_model.specs.Runs.{chosen_next, grown, grows, grows_at, world}
use Rattle.run_model.specs.World.{Config, World, happens, start}
use Rattle.run_model.specs.declared.trace.TraceEvent.{TraceEvent}
use Rattle.tier_laws.specs.Said.{Laws, FewGone, UsedBefore}
use Rattle.tier_laws.proofs.Events.OneNodeChanges.{Inv as WorldOk, Mid_event, past}
use Rattle.tier_laws.proofs.Events.EachEvent.{happens_ok, world_ok}
use Rattle.tier_laws.proofs.Events.LogsGrow.{served_same}
use Rattle.run_model.proofs.Appending.{run-append}
use Rattle.tier_laws.proofs.Said.LaterStarts.{happens_keeps}
use Rattle.tier_laws.proofs.Events.OneTiersLog.{chosen_now, meets_good}
use Rattle.tier_laws.proofs.Events.GrowingPast.{MidOk, Past, VerdictOk}
use Rattle.run_model.specs.Runs.{log_soup}
use Rattle.tier_laws.proofs.Said.FromInvariant.{at_round, durable}
use Rattle.tier_laws.proofs.Lists.ItemsByIndex.{get_push, tier_there}
use Rattle.server_model.specs.Server.{same_tier}

-- a backend's log grows beside the middle one
back_same : {B : Type 0} (c : Config B) (w : World B) (t : Tier) (o : Option AnyValue) → same_tier MidTier t ≡ false
    → (grown c w t o).logs MidTier ≡ w.logs MidTier
back_same c w t None e = refl
back_same c w t (Some v) e = tier_there w.logs t (w.logs t ++ v ∷ []) MidTier e

new_value : {B : Type 0} (c : Config B) (w : World B) (o : Option AnyValue) (p : ℕ) (v : AnyValue)
    → chosen_next c w MidTier ≡ o → length (w.logs MidTier) ≤ p → slice_get ((grown c w MidTier o).logs MidTier) p ≡ Some v
    → Meets c.u (log_soup MidTier w.soup) p v
new_value c w None p v e l f = absurd (omega (arith, slice_get_within (w.logs MidTier) p v f))
new_value {B} c w (Some u) p v e l f = go (get_push (w.logs MidTier) u p v f)
  where
    go : (slice_get (w.logs MidTier) p ≡ Some v) ⊎ ((p ≡ length (w.logs MidTier)) × (u ≡ v)) → Meets c.u (log_soup MidTier w.soup) p v
    go (inl g) = absurd (omega (arith, slice_get_within (w.logs MidTier) p v g))
    go (inr g) = subst (λ z. Meets c.u (log_soup MidTier w.soup) z v) (sym g.0)
        (subst (Meets c.u (log_soup MidTier w.soup) (length (w.logs MidTier))) g.1
        (chosen_now c.u (log_soup MidTier w.soup) (length (w.logs MidTier)) u e))

new_good : {B : Type 0} (c : Config B) (P : Past B) (w : World B) (p : ℕ) (v : AnyValue) → Mid_event c P w
    → length (w.logs MidTier) ≤ p → slice_get ((grows c w).logs MidTier) p ≡ Some v → MidOk c P p v
new_good {B} c P w p v i l e =
    let one = grows_at c MidTier w in
    let two = grows_at c Inv one in
    let f : slice_get (one.logs MidTier) p ≡ Some v = ap (λ z. slice_get z p)
    (sym (back_same c one Inv (chosen_next c one Inv) refl))
    ∙ ap (λ z. slice_get z p) (sym (back_same c two Pay (chosen_next c two Pay) refl)) ∙ e in
    meets_good c.u (i.h MidTier) (log_soup MidTier w.soup) (w.logs MidTier) (MidOk c P) p v i.before (new_value c w (chosen_next c w MidTier) p v refl l f)

-- what the verdict rests on
pub verdict_before : {B : Type 0} (c : Config B) (es : List TraceEvent) (e : TraceEvent) (r : ℕ) (v : Verdict)
    → c.u < 128 → (i : WorldOk c (world c es)) → length ((world c es).logs MidTier) ≤ 2 * r + 1
    → slice_get ((world c (es ++ e ∷ [])).logs MidTier) (2 * r + 1) ≡ Some (OfMid (Decided v))
    → VerdictOk c (past c (world c es) i.codes) r v
verdict_before {B} c es e r v few i l f =
    let w : World B = world c es in
    at_round c (past c w i.codes) r v (new_good c (past c w i.codes) (happens c w e) (2 * r + 1) (OfMid (Decided v)) (happens_ok c w e few i)
    (subst (λ z. length z ≤ 2 * r + 1) (sym (ap (λ K. K MidTier) (happens_keeps c w e).logs)) l)
    (ap (λ (z : World B). slice_get (z.logs MidTier) (2 * r + 1)) (sym (run-append c es (e ∷ []) start)) ∙ f))

pub used_before : {B : Type 0} (c : Config B) (es : List TraceEvent) (e : TraceEvent) (r : ℕ) (v : Verdict) → c.u < 128
    → Laws c.service.programs → length ((world c es).logs MidTier) ≤ 2 * r + 1
    → slice_get ((world c (es ++ e ∷ [])).logs MidTier) (2 * r + 1) ≡ Some (OfMid (Decided v)) → FewGone c (world c es)
    → UsedBefore c (world c es) r
used_before {B} c es e r v few laws l f gone = record {
  made = k.made;
  is_round = subst (λ A. round c.service.programs c.depth (w.logs MidTier) A r ≡ Some k.made)
      (sym (served_same c w i.codes i.h i.core)) k.is_round;
  held = λ j q n g h. durable c w n.tier n.num i
      (k.held.at j q n g h) gone;
}
  where
    w : World B
    w = world c es

    i : WorldOk c (world c es)
    i = world_ok c es few laws

    k : VerdictOk c (past c (world c es) i.codes) r v
    k = verdict_before c es e r v few i l f
