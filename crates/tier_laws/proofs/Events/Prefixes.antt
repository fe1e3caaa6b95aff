-- Who held an answer, by prefixes of the events.
use Rattle.std.proofs.Common.{◌≡◌, ℕ, ◌+◌, ◌*◌, ◌<◌, ◌≤◌, Bool, true, false, List, [], ◌∷◌, ◌++◌, length, refl, sym, ap}
use Rattle.std.proofs.Common.{◌∙◌, subst, Option, Some, None, append_assoc}
use Rattle.std.specs.Prelude.{slice_get}
use Rattle.std.proofs.lemmas.List.{append-nil}
use Rattle.aeg_base.specs.declared.names.Tier.{Tier}
use Rattle.aeg_base.specs.declared.names.Tier.TheVariants.{Mid, Inv, Pay}
use Rattle.log_model.specs.Chosen.{chosen_among}
use Rattle.log_model.specs.Recover.{newest}
use Rattle.log_values.specs.declared.any_value.AnyValue.{AnyValue}
use Rattle.log_values.specs.declared.any_value.AnyValue.TheVariants.{Back as OfBack}
use Rattle.log_values.specs.declared.back_value.BackValue.TheVariants.{Settle}
use Rattle.log_values.specs.declared.fact.Fact.{Fact}
use Rattle.log_values.specs.declared.mid_value.Verdict.{Verdict}
use Rattle.log_values.specs.declared.any_value.AnyValue.TheVariants.{Mid as OfMid}
use Rattle.log_values.specs.declared.mid_value.MidValue.TheVariants.{Verdict as Decided}
use Rattle.frames.specs.declared.message.Msg.TheVariants as msgs
use Rattle.round_model.specs.After.{round}
use Rattle.tier_laws.proofs.MidNodes.CodesOfFacts.{code_of}
use Rattle.round_model.specs.Lists.{is_some}
use Rattle.run_model.specs.Runs.{chosen_next, grown, grows, grows_at, run, world}
use Rattle.round_model.specs.Held.{held_code}
use Rattle.run_model.specs.World.{Config, World, happens, start}
use Rattle.run_model.specs.declared.trace.TraceEvent.{TraceEvent}
use Rattle.tier_model.specs.Moves.{Packet, held_in, tier_of}
use Rattle.tier_laws.specs.Said.{Laws, StandsFor, Holds, HeldBefore, ManyHolders, is_gone}
use Rattle.tier_laws.proofs.Rounds.CausesBefore.{verdict_before}
use Rattle.tier_laws.proofs.Events.OneNodeChanges.{Inv as WorldOk, Mid_event, past}
use Rattle.tier_laws.proofs.Events.EachEvent.{happens_ok, start_ok, start_codes}
use Rattle.tier_laws.proofs.Events.LogsGrow.{grows_ok, grows_codes, served_same}
use Rattle.run_model.proofs.Appending.{run-append}
use Rattle.tier_laws.proofs.Events.GrowingPast.{ManyHold, VerdictOk}
use Rattle.tier_laws.proofs.Said.FromInvariant.{held_for, sent, settled_floor}
use Rattle.tier_laws.proofs.Lists.ItemsByIndex.{some_of}

-- the nodes' codes are held, by prefixes of the events
record HeldAt {B : Type 0} (c : Config B) (es : List TraceEvent) (w : World B) : Type 0 where
  inv : WorldOk c w
  hold : (x : ℕ) (t : Tier) (n code : ℕ) → x < 2 * c.u + 1 → code_of (inv.codes Mid x) t n ≡ Some code → Holds c es t n x

-- ONE EVENT

later : {B : Type 0} (c : Config B) (es : List TraceEvent) (e : TraceEvent) (t : Tier) (n x : ℕ) → Holds c es t n x → Holds c (es ++ e ∷ []) t n x
later c es e t n x k = record {
  before = k.before;
  after = k.after ++ e ∷ [];
  is_all = ap (λ z. z ++ e ∷ []) k.is_all
      ∙ append_assoc k.before k.after (e ∷ []);
  here = k.here;
  had = k.had;
}

-- what a node that isn't gone has at the world after the events
HasNow : {B : Type 0} → Config B → World B → Tier → ℕ → ℕ → Type 0
HasNow c w t n x = (is_gone (w.nodes Mid x).mode ≡ false)
    × ((records : List (List Fact)) → StandsFor (w.nodes Mid x) (w.nodes Mid x).mode records → (code : ℕ)
    × (held_code (held_in c.u x (newest records)) t n ≡ Some code))

now : {B : Type 0} (c : Config B) (es : List TraceEvent) (w : World B) → w ≡ world c es → (t : Tier) (n x : ℕ) → HasNow c w t n x → Holds c es t n x
unfolding HasNow
now {B} c es w e t n x k =
    let h : HasNow c (world c es) t n x = subst (λ (z : World B). HasNow c z t n x) e k in
    record { before = es; after = []; is_all = sym (append-nil es); here = h.0; had = h.1 }

has_now : {B : Type 0} (c : Config B) (w : World B) (i : WorldOk c w) (x : ℕ) (t : Tier) (n code : ℕ) → x < 2 * c.u + 1
    → code_of (i.codes Mid x) t n ≡ Some code → is_gone (w.nodes Mid x).mode ≡ false → HasNow c w t n x
unfolding HasNow
has_now c w i x t n code l e g = (g, λ R s. (code, held_for c w i x t n code (w.nodes Mid x).mode (i.core.nodes Mid x l) e R s))

grown_same : {B : Type 0} (c : Config B) (w : World B) (t : Tier) (o : Option AnyValue) → (grown c w t o).nodes Mid ≡ w.nodes Mid
grown_same c w t None = refl
grown_same c w t (Some v) = refl

-- the growth of the logs changes no node
grows_same : {B : Type 0} (c : Config B) (w : World B) → (grows c w).nodes Mid ≡ w.nodes Mid
grows_same {B} c w = grown_same c two Pay (chosen_next c two Pay) ∙ grown_same c one Inv (chosen_next c one Inv) ∙ grown_same c w Mid (chosen_next c w Mid)
  where
    one : World B
    one = grows_at c Mid w

    two : World B
    two = grows_at c Inv one

held_step : {B : Type 0} (c : Config B) (es : List TraceEvent) (w : World B) (e : TraceEvent) → c.u < 128
    → w ≡ world c es → HeldAt c es w → HeldAt c (es ++ e ∷ []) (grows c (happens c w e))
held_step {B} c es w e few same k = record {
  inv = after;
  hold = λ x t n code l f. one x t n code l f (is_gone ((grows c (happens c w e)).nodes Mid x).mode) refl;
}
  where
    event : Mid_event c (past c w k.inv.codes) (happens c w e)
    event = happens_ok c w e few k.inv

    after : WorldOk c (grows c (happens c w e))
    after = grows_ok c (past c w k.inv.codes) (happens c w e) few event

    codes_same : after.codes ≡ event.codes
    codes_same = grows_codes c (past c w k.inv.codes) (happens c w e) few event

    reached : grows c (happens c w e) ≡ world c (es ++ e ∷ [])
    reached = ap (λ (z : World B). grows c (happens c z e)) same ∙ sym (run-append c es (e ∷ []) start)

    one : (x : ℕ) (t : Tier) (n code : ℕ) → x < 2 * c.u + 1 → code_of (after.codes Mid x) t n ≡ Some code → (b : Bool)
        → is_gone ((grows c (happens c w e)).nodes Mid x).mode ≡ b → Holds c (es ++ e ∷ []) t n x
    one x t n code l f false g = now c (es ++ e ∷ []) (grows c (happens c w e)) reached t n x (has_now c (grows c (happens c w e)) after x t n code l f g)
    one x t n code l f true g =
        let gone : is_gone ((happens c w e).nodes Mid x).mode ≡ true = ap (λ ms. is_gone (ms x).mode) (sym (grows_same c (happens c w e))) ∙ g in
        let old : code_of (k.inv.codes Mid x) t n ≡ Some code = ap (λ cs. code_of cs t n)
        (sym (event.gone_codes Mid x gone)) ∙ ap (λ cs. code_of (cs Mid x) t n) (sym codes_same) ∙ f in
        later c es e t n x (k.hold x t n code l old)

-- ALL EVENTS

held_from : {B : Type 0} (c : Config B) (es done : List TraceEvent) (w : World B) → c.u < 128 → w ≡ world c done
    → HeldAt c done w → HeldAt c (done ++ es) (run c es w)
held_from c [] done w few same k = subst (λ z. HeldAt c z w) (sym (append-nil done)) k
held_from {B} c (e ∷ es) done w few same k =
    subst (λ z. HeldAt c z (run c es (grows c (happens c w e)))) (append_assoc done (e ∷ []) es)
    (held_from c es (done ++ e ∷ []) (grows c (happens c w e)) few (ap (λ (z : World B). grows c (happens c z e)) same
    ∙ sym (run-append c done (e ∷ []) start)) (held_step c done w e few same k))

held_now : {B : Type 0} (c : Config B) (es : List TraceEvent) → c.u < 128 → Laws c.service.programs → HeldAt c es (world c es)
held_now c es few laws = held_from c es [] start few refl
    (record {
      inv = start_ok c laws;
      hold = λ x t n code l e. absurd
          (let f : None ≡ Some code = sym (ap (λ cs. code_of cs t n) (start_codes c laws Mid x)) ∙ e in cc);
    })

many_holders : {B : Type 0} (c : Config B) (es : List TraceEvent) (k : HeldAt c es (world c es)) (t : Tier) (n : ℕ)
    → ManyHold c (past c (world c es) k.inv.codes) t n → ManyHolders c es t n
many_holders c es k t n many = (
  (λ x. is_some (code_of (k.inv.codes Mid x) t n)),
  many,
  λ x l e. let a = some_of (code_of (k.inv.codes Mid x) t n) e in k.hold x t n a.0 l a.1,
)

-- WHO HOLDS WHAT IS USED, TOLD OR SETTLED

pub round_holders : {B : Type 0} (c : Config B) (es : List TraceEvent) (e : TraceEvent) (r : ℕ) (v : Verdict)
    → c.u < 128 → Laws c.service.programs → length ((world c es).logs Mid) ≤ 2 * r + 1
    → slice_get ((world c (es ++ e ∷ [])).logs Mid) (2 * r + 1) ≡ Some (OfMid (Decided v)) → HeldBefore c es r
round_holders {B} c es e r v few laws l f = record {
  made = o.made;
  is_round = subst (λ A. round c.service.programs c.depth ((world c es).logs Mid) A r ≡ Some o.made)
      (sym (served_same c (world c es) k.inv.codes k.inv.h k.inv.core)) o.is_round;
  held = λ j q n g h. many_holders c es k n.tier n.num (o.held.at j q n g h);
}
  where
    k : HeldAt c es (world c es)
    k = held_now c es few laws

    o : VerdictOk c (past c (world c es) k.inv.codes) r v
    o = verdict_before c es e r v few k.inv l f

pub floor_holders : {B : Type 0} (c : Config B) (es : List TraceEvent) (place g n : ℕ) (p : Packet) → c.u < 128
    → Laws c.service.programs → slice_get (world c es).soup place ≡ Some p → p.message ≡ msgs.Settle g → 0 < n → n < g
    → ManyHolders c es (tier_of p.to) n
floor_holders c es place g n p few laws e f a b =
    let k = held_now c es few laws in
    many_holders c es k (tier_of p.to) n ((sent c (world c es) place p (msgs.Settle g) k.inv e f).many n a b)

pub settled_holders : {B : Type 0} (c : Config B) (es : List TraceEvent) (t : Tier) (p g n : ℕ) → c.u < 128
    → Laws c.service.programs → slice_get ((world c es).logs t) p ≡ Some (OfBack (Settle g)) → 0 < n → n < g → ManyHolders c es t n
settled_holders {B} c es t p g n few laws e a b =
    let k = held_now c es few laws in
    many_holders c es k t n ((settled_floor c (world c es) t p g k.inv e).many n a b)
