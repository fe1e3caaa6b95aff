-- A backend node's turns of the log, its offers, its retry and its restart.
use Rattle.std.proofs.Common.{◌≡◌, ℕ, ◌+◌, ◌*◌, ◌<◌, ◌≤◌, Bool, true, false, cond, List, [], ◌∷◌, ◌++◌, length, refl}
use Rattle.std.proofs.Common.{sym, ap, ◌∙◌, subst, inl, inr, Option, Some, None, zero, suc, arith}
use Rattle.std.specs.Prelude.{◌-◌, replicate, slice_get, ◌⊎◌, nat_lt}
use Rattle.std.proofs.lemmas.Bool.{cond-true, cond-false, cond_both, lt-ltb}
use Rattle.std.proofs.lemmas.List.{append-nil, append_assoc}
use Rattle.aeg_base.specs.declared.names.Tier.{Tier}
use Rattle.log_model.proofs.Basics.{Every, every-append, every-weaker}
use Rattle.log_model.proofs.Invariant.{Rest, TurnOk}
use Rattle.log_model.proofs.Origin.{Origins, Stood}
use Rattle.log_model.proofs.Rows.{still}
use Rattle.log_model.proofs.Step.{turn_rest, wrote}
use Rattle.log_model.specs.Log.{Leader, LogState, Turn, is, nobody, open_at}
use Rattle.log_model.specs.Recover.{learned_in, onto, recover}
use Rattle.log_model.specs.Rows.{lead, offer, on_msg}
use Rattle.log_model.specs.declared.fact.Fact.{Fact as LogFact}
use Rattle.log_model.specs.World.{packets_of}
use Rattle.log_model.specs.declared.message.PaxMsg.{PaxMsg}
use Rattle.log_values.specs.declared.any_value.AnyValue.{AnyValue}
use Rattle.log_values.specs.declared.any_value.AnyValue.TheVariants.{Back as OfBack, Mid as OfMid}
use Rattle.log_values.specs.declared.back_value.BackValue.TheVariants.{Call as Called, Settle as Settled}
use Rattle.round_model.proofs.ShimLaws.{ready_least}
use Rattle.round_model.specs.Lists.{and_then, each, is_some, lowest}
use Rattle.round_model.specs.Numbered.{find}
use Rattle.round_model.specs.Service.{Backend}
use Rattle.round_model.specs.Shims.{agreed, copies_or_none, copy_of, due, due_among, due_floor, floor_at, highest, is_backed, is_more, ready}
use Rattle.run_model.specs.World.{Config}
use Rattle.server_model.specs.Server.{same_tier}
use Rattle.tier_laws.proofs.Rounds.DecidedRounds.{every-each}
use Rattle.tier_laws.proofs.BackNodes.LearnedValues.{Learnt, learn_ok, nobody_gave}
use Rattle.tier_laws.proofs.BackNodes.RightMoves.{BackHere, BackKnown, BackMoveOk, BackOther, Tied, back_knows}
use Rattle.tier_laws.proofs.MidNodes.Offers.{drop_every, entries}
use Rattle.tier_laws.proofs.Events.GrowingPast.{BackOk, FloorOk, SentOk, Past}
use Rattle.tier_laws.proofs.Rounds.StableRounds.{MoreLog}
use Rattle.tier_model.specs.declared.turn.Idle.TheVariants as why
use Rattle.tier_laws.proofs.Events.LogPackets.{NoLog, no_log, none_nil, none_append, none_each, log_soup-own, log_soup-other, every-log}
use Rattle.run_model.specs.Runs.{log_soup}
use Rattle.run_model.proofs.Soups.{log_soup-append}
use Rattle.tier_model.specs.Back.{Back, after_value, in_log, new_value, passes, value_sends, value_state, value_tells, with_log}
use Rattle.log_model.specs.declared.fact.Fact.TheVariants.{Promised, Accepted as Voted, Learned}
use Rattle.log_model.specs.declared.message.PaxMsg.TheVariants.{Ask}
use Rattle.log_model.specs.declared.turn.Offering.{Offering}
use Rattle.log_model.specs.declared.turn.Offering.TheVariants.{NotLeader, NoPromises, InFlight, LogFull, Taken, Free}
use Rattle.log_model.specs.Log.{says as log_says}
use Rattle.log_model.specs.Rows.{offer_as, wants as log_wants}
use Rattle.log_model.proofs.Rows.{lead_ok}
use Rattle.log_model.proofs.Votes.{offer_ok}
use Rattle.log_model.proofs.Origin.{lead_from, offer_from}
use Rattle.log_model.proofs.Invariant.{SendOk}
use Rattle.log_values.specs.declared.fact.Fact.{Fact}
use Rattle.tier_laws.proofs.BackNodes.RightMoves.{back_stays}
use Rattle.tier_laws.proofs.Lists.ItemsByIndex.{get_end, get_left, length_push, tier_sym}
use Rattle.tier_laws.proofs.MidNodes.RightMoves.{log_facts-map, helds-map}
use Rattle.tier_laws.proofs.Events.OneTiersLog.{state_more}
use Rattle.tier_model.specs.Back.{answer_to}
use Rattle.tier_model.specs.BackRows.{leads, offers, offers_as, after_values, answers_again, bare, own_by, own_value, recovered, retry, settle_value}
use Rattle.tier_model.specs.Moves.{Packet, asks, log_packets, log_facts, idles}

-- AT MOST ONE POSITION IS LEARNED

pub one_msg : {V : Type 0} (u : ℕ) (log : LogState V) (s : ℕ) (m : PaxMsg V) → length (on_msg u log s m).facts ≤ 1
one_msg u log s m = grind arith

pub one_lead : {V : Type 0} (u x : ℕ) (log : LogState V) → length (lead u x log).facts ≤ 1
one_lead u x log = grind arith

pub one_offer : {V : Type 0} (u x : ℕ) (log : LogState V) (o : Option (Leader V)) (own : Option V) → length (offer_as u x log o own).facts ≤ 1
one_offer u x log None own = grind arith
one_offer u x log (Some l) own = grind arith

learned_step : {V : Type 0} (fs F : List (LogFact V)) → length fs ≤ 1
    → (learned_in (onto fs F) ≡ learned_in F) ⊎ ((v : V) × (learned_in (onto fs F) ≡ learned_in F ++ v ∷ []))
learned_step [] F l = inl refl
learned_step (Promised b ∷ []) F l = inl refl
learned_step (Voted p b v ∷ []) F l = inl refl
learned_step (Learned p v ∷ []) F l = inr (v, refl)
learned_step (f ∷ g ∷ fs) F l = absurd (omega arith)

-- PACKETS

value_none : {B : Type 0} (u : ℕ) (b : Backend B) (t : Tier) (x : ℕ) (σ : Back B) (o : Option AnyValue) → NoLog (value_tells u b t x σ o)
value_none u b t x σ None = none_nil
value_none u b t x σ (Some (OfBack (Settled g))) = none_nil
value_none u b t x σ (Some (OfMid v)) = none_nil
value_none u b t x σ (Some (OfBack (Called n text))) =
    cond_both (passes σ n) [] (each (2 * u + 1) nobody (answer_to t x n (b.serve σ.state text).code)) NoLog (λ e. none_nil)
    (λ e. none_each (2 * u + 1) nobody (answer_to t x n (b.serve σ.state text).code) (λ y. record { all = λ v. refl }))

value_log : {B : Type 0} (b : Backend B) (σ : Back B) (v : AnyValue) → (after_value b σ v).log ≡ σ.log
value_log {B} b σ (OfBack (Called n text)) = cond_both (passes σ n) σ _ (λ (z : Back B). z.log ≡ σ.log) (λ e. refl) (λ e. refl)
value_log b σ (OfMid v) = refl
value_log b σ (OfBack (Settled g)) = refl

state_log : {B : Type 0} (b : Backend B) (σ : Back B) (o : Option AnyValue) → (value_state b σ o).log ≡ σ.log
state_log b σ None = refl
state_log b σ (Some v) = value_log b σ v

relog_tied : {B : Type 0} (b : Backend B) (vs : List AnyValue) (σ : Back B) (s : LogState AnyValue) → Tied b vs σ → Tied b vs (with_log σ s)
relog_tied b vs σ s k = record {
  state = k.state;
  codes = k.codes;
  kept = k.kept;
  floor = k.floor;
  greatest = k.greatest;
  above = k.above;
  in_order = k.in_order;
}

relog_other : {B : Type 0} (c : Config B) (P : Past B) (t : Tier) (σ : Back B) (s : LogState AnyValue) → BackOther c P t σ → BackOther c P t (with_log σ s)
relog_other c P t σ s k = record { faults = k.faults; copies = k.copies; in_order = k.in_order; floors = k.floors; kept = k.kept }

-- of the log's packets and others, those of the log are the first
own_soup : (t : Tier) (x : ℕ) (sends : List (ℕ × PaxMsg AnyValue)) (ks : List Packet) → NoLog ks → log_soup t (log_packets t x sends ++ ks) ≡ packets_of x sends
own_soup t x sends ks n =
    log_soup-append t (log_packets t x sends) ks ∙ ap (λ z. log_soup t (log_packets t x sends) ++ z) (no_log ks n t)
    ∙ append-nil (log_soup t (log_packets t x sends)) ∙ log_soup-own t x sends

-- and none is of another tier's log
other_soup : (t : Tier) (x : ℕ) (sends : List (ℕ × PaxMsg AnyValue)) (ks : List Packet) → NoLog ks → (w : Tier) → same_tier w t ≡ false
    → log_soup w (log_packets t x sends ++ ks) ≡ []
other_soup t x sends ks n w e =
    log_soup-append w (log_packets t x sends) ks ∙ ap (λ z. z ++ log_soup w ks) (log_soup-other w t x sends (tier_sym w t e)) ∙ no_log ks n w

-- A TURN OF THE LOG

-- the state after a turn of the log, and what is told once what it learns is taken
abbrev turned : {B : Type 0} → Backend B → Back B → LogState AnyValue → Back B
turned b σ s = value_state b (with_log σ s) (new_value σ.log s)

abbrev turn_tells : {B : Type 0} → ℕ → Backend B → Tier → ℕ → Back B → LogState AnyValue → List Packet
turn_tells u b t x σ s = value_tells u b t x (with_log σ s) (new_value σ.log s)

turn_learnt : {B : Type 0} (c : Config B) (P : Past B) (t : Tier) (x : ℕ) (vs : List AnyValue) (σ : Back B) (s : LogState AnyValue) → BackKnown c P t vs
    → Tied (c.service.backend t) σ.log.learned σ → BackOther c P t σ → MoreLog s.learned vs
    → (s.learned ≡ σ.log.learned) ⊎ ((v : AnyValue) × (s.learned ≡ σ.log.learned ++ v ∷ []))
    → Learnt c P t x s.learned (turned (c.service.backend t) σ s) (turn_tells c.u (c.service.backend t) t x σ s)
turn_learnt {B} c P t x vs σ s known tied other more how = go how
  where
    b : Backend B
    b = c.service.backend t

    τ : Back B
    τ = with_log σ s

    old : List AnyValue
    old = σ.log.learned

    by : (o : Option AnyValue) → new_value σ.log s ≡ o → Learnt c P t x s.learned (value_state b τ o) (value_tells c.u b t x τ o)
        → Learnt c P t x s.learned (turned b σ s) (turn_tells c.u b t x σ s)
    by o e l = subst (λ o. Learnt c P t x s.learned (value_state b τ o) (value_tells c.u b t x τ o)) (sym e) l

    not_more : (a b : ℕ) → b ≡ a → nat_lt a b ≡ false
    not_more a b e = grind arith

    go : (s.learned ≡ old) ⊎ ((v : AnyValue) × (s.learned ≡ old ++ v ∷ [])) → Learnt c P t x s.learned (turned b σ s) (turn_tells c.u b t x σ s)
    go (inl e) = by None
        (cond-false (nat_lt (length old) (length s.learned)) (slice_get s.learned (length old)) None (not_more (length old) (length s.learned) (ap length e)))
        (record { tied = subst (λ z. Tied b z τ) (sym e) (relog_tied b old σ s tied); other = relog_other c P t σ s other; sends = tt })
    go (inr r) = by (Some r.0) some (subst (λ z. Learnt c P t x z (after_value b τ r.0) (value_sends c.u b t x τ r.0)) (sym r.1) l)
      where
        longer : length old < length s.learned
        longer = omega (arith, ap length r.1, length_push old r.0)

        some : new_value σ.log s ≡ Some r.0
        some =
            cond-true (nat_lt (length old) (length s.learned)) (slice_get s.learned (length old)) None (lt-ltb _ _ longer)
            ∙ ap (λ z. slice_get z (length old)) r.1 ∙ get_end old r.0

        l : Learnt c P t x (old ++ r.0 ∷ []) (after_value b τ r.0) (value_sends c.u b t x τ r.0)
        l = learn_ok c P t x vs old τ r.0 known (subst (λ z. MoreLog z vs) r.1 more) (relog_tied b old σ s tied) (relog_other c P t σ s other)

pub back_move : {B : Type 0} (c : Config B) (P : Past B) (t : Tier) (vs : List AnyValue) (h : ℕ → List (LogFact AnyValue)) (soup : List Packet)
    (x : ℕ) (σ : Back B) (a : Turn AnyValue) (own : Option AnyValue) → BackHere c P t vs h soup x σ
    → TurnOk c.u h (log_soup t soup) x a → Origins c.u h x own a
    → length a.facts ≤ 1 → ((p : ℕ) (v : AnyValue) → own ≡ Some v → BackOk c P t p v)
    → BackMoveOk c P t h soup x (in_log c.u (c.service.backend t) t x σ a)
back_move {B} c P t vs h soup x σ a own k ok from one fine = record {
  turn = a;
  turn_ok = ok;
  good = λ p b w d. good p w (from.from p b w d);
  is_facts = log_facts-map a.facts;
  is_sends = own_soup t x a.sends told none;
  is_log = same_log;
  others = λ w e. other_soup t x a.sends told none w e;
  no_codes = helds-map a.facts;
  other = l.other;
  tied = subst (λ (z : LogState AnyValue). Tied b z.learned (turned b σ a.state)) (sym same_log) l.tied;
  sends = every-append (SentOk c P) (log_packets t x a.sends) told (every-log c P t x a.sends) l.sends;
}
  where
    b : Backend B
    b = c.service.backend t

    told : List Packet
    told = turn_tells c.u b t x σ a.state

    none : NoLog (turn_tells c.u b t x σ a.state)
    none = value_none c.u b t x (with_log σ a.state) (new_value σ.log a.state)

    same_log : (turned b σ a.state).log ≡ a.state
    same_log = state_log b (with_log σ a.state) (new_value σ.log a.state)

    good : (p : ℕ) (w : AnyValue) → Stood c.u h p w ⊎ ((own ≡ Some w) × (p ≡ length a.state.learned)) → BackOk c P t p w
    good p w (inl s) = k.good s.0 s.2 p s.1 w s.3
    good p w (inr s) = fine p w s.0

    r : Rest c.u (wrote h x a) (onto a.facts (h x)) (log_soup t soup) x a
    r = turn_rest c.u h (log_soup t soup) x a ok

    more : MoreLog a.state.learned vs
    more = state_more c.u h (log_soup t soup) vs x a ok k.complete

    steps : (learned_in (onto a.facts (h x)) ≡ learned_in (h x)) ⊎ ((v : AnyValue) × (learned_in (onto a.facts (h x)) ≡ learned_in (h x) ++ v ∷ []))
        → (a.state.learned ≡ σ.log.learned) ⊎ ((v : AnyValue) × (a.state.learned ≡ σ.log.learned ++ v ∷ []))
    steps (inl e) = inl (r.state.learned ∙ e ∙ sym k.log.learned)
    steps (inr e) = inr (e.0, r.state.learned ∙ e.1 ∙ ap (λ z. z ++ e.0 ∷ []) (sym k.log.learned))

    l : Learnt c P t x a.state.learned (turned b σ a.state) (turn_tells c.u b t x σ a.state)
    l = turn_learnt c P t x vs σ a.state k.known k.tied k.other more (steps (learned_step a.facts (h x) one))

-- OFFERS

-- the text on which copies agree is that of one of them
agreed_copy : (u : ℕ) (row : List (Option (List ℕ))) (text : List ℕ) → agreed u row ≡ Some text → (y : ℕ) × (copy_of row y ≡ Some text)
agreed_copy u row text e = go (lowest (2 * u + 1) (λ y. is_backed u row (copy_of row y))) e
  where
    go : (o : Option ℕ) → and_then o (copy_of row) ≡ Some text → (y : ℕ) × (copy_of row y ≡ Some text)
    go None f = absurd (cc)
    go (Some y) f = (y, f)

ready_ok : {B : Type 0} (c : Config B) (P : Past B) (t : Tier) (σ : Back B) (call : ℕ × List ℕ) → BackOther c P t σ → ready σ.shim ≡ Some call
    → P.server.calls t call.0 ≡ Some call.1
ready_ok c P t σ call k e = go (find σ.shim.copies call.0) refl (ready_least σ.shim call k.in_order e).agrees
  where
    go : (o : Option (List (Option (List ℕ)))) → find σ.shim.copies call.0 ≡ o → and_then o (agreed σ.shim.faults) ≡ Some call.1
        → P.server.calls t call.0 ≡ Some call.1
    go None f g = absurd (cc)
    go (Some row) f g =
        let r = agreed_copy σ.shim.faults row call.1 g in
        k.copies call.0 r.0 call.1 (ap (λ z. copy_of (copies_or_none z) r.0) f ∙ r.1)

low_floor : {B : Type 0} (c : Config B) (P : Past B) (t : Tier) (g : ℕ) → g ≤ 1 → FloorOk c P t g
low_floor c P t g l = record { served = λ n a b. absurd (omega arith); many = λ n a b. absurd (omega arith) }

due_ok : {B : Type 0} (c : Config B) (P : Past B) (t : Tier) (u : ℕ) (floors : List ℕ) (n : ℕ) → ((y : ℕ) → FloorOk c P t (floor_at floors y))
    → FloorOk c P t (due_among u floors n)
due_ok c P t u floors zero k = low_floor c P t 0 (omega arith)
due_ok c P t u floors (suc y) k =
    cond_both (is_more u floors (due_among u floors y) (floor_at floors y)) (floor_at floors y) (due_among u floors y) (FloorOk c P t)
    (λ e. k y) (λ e. due_ok c P t u floors y k)

pub back_own_ok : {B : Type 0} (c : Config B) (P : Past B) (t : Tier) (σ : Back B) (p : ℕ) (v : AnyValue) → BackOther c P t σ → own_value σ ≡ Some v
    → BackOk c P t p v
back_own_ok {B} c P t σ p v k e = go (ready σ.shim) refl e
  where
    go : (o : Option (ℕ × List ℕ)) → ready σ.shim ≡ o → own_by o (due_floor σ.shim) ≡ Some v → BackOk c P t p v
    go (Some call) f g = let s : OfBack (Called call.0 call.1) ≡ v = cc in subst (BackOk c P t p) s (ready_ok c P t σ call k f)
    go None f g = settle (nat_lt σ.shim.floor (due σ.shim.faults σ.shim.floors)) g
      where
        settle : (b : Bool) → settle_value (cond b (Some (due σ.shim.faults σ.shim.floors)) None) ≡ Some v → BackOk c P t p v
        settle true h =
            let s : OfBack (Settled (due σ.shim.faults σ.shim.floors)) ≡ v = cc in
            subst (BackOk c P t p) s (due_ok c P t σ.shim.faults σ.shim.floors (2 * σ.shim.faults + 1) k.floors)
        settle false h = absurd (cc)

-- RETRY

answers_ok : {B : Type 0} (c : Config B) (P : Past B) (t : Tier) (x : ℕ) (es : List (ℕ × ℕ)) → Every (λ (e : ℕ × ℕ). P.server.served t e.0 ≡ Some e.1) es
    → Every (SentOk c P) (answers_again c.u t x es)
answers_ok c P t x [] k = tt
answers_ok c P t x (e ∷ es) k =
    every-append (SentOk c P) (each (2 * c.u + 1) nobody (answer_to t x e.0 e.1)) (answers_again c.u t x es)
    (every-each (SentOk c P) (2 * c.u + 1) nobody (answer_to t x e.0 e.1) (λ y. k.0)) (answers_ok c P t x es k.1)

answers_none : (u : ℕ) (t : Tier) (x : ℕ) (es : List (ℕ × ℕ)) → NoLog (answers_again u t x es)
answers_none u t x [] = none_nil
answers_none u t x (e ∷ es) =
    none_append (each (2 * u + 1) nobody (answer_to t x e.0 e.1)) (answers_again u t x es)
    (none_each (2 * u + 1) nobody (answer_to t x e.0 e.1) (λ y. record { all = λ v. refl })) (answers_none u t x es)

pub back_retry_ok : {B : Type 0} (c : Config B) (P : Past B) (t : Tier) (vs : List AnyValue) (h : ℕ → List (LogFact AnyValue)) (soup : List Packet)
    (x : ℕ) (σ : Back B) → BackHere c P t vs h soup x σ → BackMoveOk c P t h soup x (retry c.u t x σ)
back_retry_ok {B} c P t vs h soup x σ k = record {
  turn = log_says σ.log asked;
  turn_ok = still c.u h (log_soup t soup) x σ.log σ.log asked None (back_knows c P t vs h soup x σ k) k.log
      (λ g same m. every-each (SendOk c.u g (log_soup t soup) x) (2 * c.u + 1) (is x) (λ y. (y, Ask (open_at σ.log))) (λ y. tt));
  good = λ p b w d. k.good x k.inside p b w d;
  is_facts = refl;
  is_sends = own_soup t x asked told none;
  is_log = refl;
  others = λ w e. other_soup t x asked told none w e;
  no_codes = refl;
  other = k.other;
  tied = k.tied;
  sends = every-append (SentOk c P) (log_packets t x asked) told (every-log c P t x asked) (answers_ok c P t x (highest σ.shim) right);
}
  where
    asked : List (ℕ × PaxMsg AnyValue)
    asked = asks c.u x (open_at σ.log)

    told : List Packet
    told = answers_again c.u t x (highest σ.shim)

    none : NoLog (answers_again c.u t x (highest σ.shim))
    none = answers_none c.u t x (highest σ.shim)

    right : Every (λ (e : ℕ × ℕ). P.server.served t e.0 ≡ Some e.1) (highest σ.shim)
    right = drop_every (λ (e : ℕ × ℕ). P.server.served t e.0 ≡ Some e.1) (length σ.shim.kept - 16) σ.shim.kept
        (every-weaker (λ (e : ℕ × ℕ). find σ.shim.kept e.0 ≡ Some e.1) (λ (e : ℕ × ℕ). P.server.served t e.0 ≡ Some e.1)
        (λ e f. k.other.kept e.0 e.1 f) σ.shim.kept (entries 0 σ.shim.kept k.tied.in_order))

-- LEADING AND OFFERING

pub back_leads_ok : {B : Type 0} (c : Config B) (P : Past B) (t : Tier) (vs : List AnyValue) (h : ℕ → List (LogFact AnyValue)) (soup : List Packet)
    (x : ℕ) (σ : Back B) → BackHere c P t vs h soup x σ → BackMoveOk c P t h soup x (leads c.u (c.service.backend t) t x σ)
back_leads_ok c P t vs h soup x σ k =
    back_move c P t vs h soup x σ (lead c.u x σ.log) None k (lead_ok c.u h (log_soup t soup) x σ.log (back_knows c P t vs h soup x σ k))
    (lead_from c.u h x σ.log k.inside) (one_lead c.u x σ.log) (λ p v e. absurd (cc))

pub back_offers_ok : {B : Type 0} (c : Config B) (P : Past B) (t : Tier) (vs : List AnyValue) (h : ℕ → List (LogFact AnyValue)) (soup : List Packet)
    (x : ℕ) (σ : Back B) → BackHere c P t vs h soup x σ → BackMoveOk c P t h soup x (offers c.u (c.service.backend t) t x σ)
back_offers_ok {B} c P t vs h soup x σ k = go (log_wants c.u σ.log)
  where
    own : Option AnyValue
    own = own_value σ

    offered : BackMoveOk c P t h soup x (in_log c.u (c.service.backend t) t x σ (offer c.u x σ.log own))
    offered = back_move c P t vs h soup x σ (offer c.u x σ.log own) own k
        (offer_ok c.u h (log_soup t soup) x σ.log σ.log.leader own (back_knows c P t vs h soup x σ k) k.log.leader)
        (offer_from c.u h x σ.log σ.log.leader own k.inside k.log.leader) (one_offer c.u x σ.log σ.log.leader own)
        (λ p v e. back_own_ok c P t σ p v k.other e)

    go : (o : Offering) → BackMoveOk c P t h soup x (offers_as c.u (c.service.backend t) t x σ o)
    go NotLeader = back_stays c P t vs h soup x σ k
    go (NoPromises have) = back_stays c P t vs h soup x σ k
    go (InFlight p) = back_stays c P t vs h soup x σ k
    go LogFull = back_stays c P t vs h soup x σ k
    go Taken = offered
    go (Free p) =
        cond_both (is_some own) (in_log c.u (c.service.backend t) t x σ (offer c.u x σ.log own)) (idles σ why.Nothing) (BackMoveOk c P t h soup x)
        (λ e. offered) (λ e. back_stays c P t vs h soup x σ k)

-- RESTART

values_ok : {B : Type 0} (c : Config B) (P : Past B) (t : Tier) (K xs vs : List AnyValue) (σ : Back B) → BackKnown c P t K → MoreLog (xs ++ vs) K
    → Tied (c.service.backend t) xs σ → BackOther c P t σ
    → Tied (c.service.backend t) (xs ++ vs) (after_values (c.service.backend t) σ vs) × BackOther c P t (after_values (c.service.backend t) σ vs)
    × ((after_values (c.service.backend t) σ vs).log ≡ σ.log)
values_ok c P t K xs [] σ known pre tied other = (subst (λ z. Tied (c.service.backend t) z σ) (sym (append-nil xs)) tied, other, refl)
values_ok {B} c P t K xs (v ∷ vs) σ known pre tied other =
    let p : MoreLog ((xs ++ v ∷ []) ++ vs) K = subst (λ z. MoreLog z K) (sym (append_assoc xs (v ∷ []) vs)) pre in
    let one : MoreLog (xs ++ v ∷ []) K = record { at = λ i w e. p.at i w (get_left (xs ++ v ∷ []) vs i w e) } in
    let l : Learnt c P t 0 (xs ++ v ∷ []) (after_value b σ v) (value_sends c.u b t 0 σ v) = learn_ok c P t 0 K xs σ v known one tied other in
    let r = values_ok c P t K (xs ++ v ∷ []) vs (after_value b σ v) known p l.tied l.other in
    (subst (λ z. Tied b z (after_values b (after_value b σ v) vs)) (append_assoc xs (v ∷ []) vs) r.0, r.1, r.2 ∙ value_log b σ v)
  where
    b : Backend B
    b = c.service.backend t

floors_one : {B : Type 0} (c : Config B) (P : Past B) (t : Tier) (n y : ℕ) → FloorOk c P t (floor_at (replicate n 1) y)
floors_one c P t zero y = low_floor c P t 0 (omega arith)
floors_one c P t (suc n) zero = low_floor c P t 1 (omega arith)
floors_one c P t (suc n) (suc y) = floors_one c P t n y

pub recovered_ok : {B : Type 0} (c : Config B) (P : Past B) (t : Tier) (K : List AnyValue) (F : List Fact) → BackKnown c P t K
    → MoreLog (learned_in (log_facts F)) K
    → Tied (c.service.backend t) (learned_in (log_facts F)) (recovered c.u (c.service.backend t) F) × BackOther c P t (recovered c.u (c.service.backend t) F)
    × ((recovered c.u (c.service.backend t) F).log ≡ recover c.u (log_facts F))
recovered_ok c P t K F known pre = values_ok c P t K [] (learned_in (log_facts F)) (bare c.u (c.service.backend t) F) known pre
    (record {
      state = refl;
      codes = λ n code e. absurd (cc);
      kept = λ n code e. absurd (cc);
      floor = λ n a b. absurd (omega arith);
      greatest = refl;
      above = λ n code e. absurd (cc);
      in_order = refl;
    })
    (record {
      faults = refl;
      copies = λ n y text e. absurd (nobody_gave 5 y text e);
      in_order = refl;
      floors = λ y. floors_one c P t 5 y;
      kept = λ n code e. absurd (cc);
    })
