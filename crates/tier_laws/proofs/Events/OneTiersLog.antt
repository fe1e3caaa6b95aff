-- One tier's log inside a larger world: a turn of the log, and the chosen log that grows at its end.
pub use Rattle.tier_laws.proofs.Invariant.LogsAreChosen.{LogPart, Complete, Nearly}
use Rattle.std.proofs.Common.{false, refl, ◌≡◌, ℕ, ◌+◌, ◌*◌, ◌<◌, ◌≤◌, true, List, [], ◌∷◌, ◌++◌, length, sym, ap, ◌∙◌}
use Rattle.std.proofs.Common.{subst, inl, inr, Some, None, zero, suc, arith}
use Rattle.std.specs.Prelude.{slice_get, ◌⊎◌, ◌==◌}
use Rattle.std.proofs.lemmas.Bool.{cases_lt}
use Rattle.std.proofs.lemmas.Option.{slice_get_within}
use Rattle.aeg_base.specs.declared.names.Ballot.{Ballot}
use Rattle.log_model.proofs.Agree.{agree, meets_voted}
use Rattle.log_model.proofs.Chosen.{IsSomething, meets_now, now_meets}
use Rattle.log_model.proofs.History.{DidVote, opening, votes_below}
use Rattle.log_model.proofs.Invariant.{AllGrew, History, SoupGrew, StateOk, TurnOk, all_same, soup-append, soup-refl}
use Rattle.log_model.proofs.Soup.{meets-append}
use Rattle.log_model.proofs.Step.{grown, put_each, put_other, turn_history, turn_rest, turn_state, write_history, wrote}
use Rattle.log_model.specs.Chosen.{Meets, chosen_among, is_reached}
use Rattle.log_model.specs.Log.{LogState, Turn}
use Rattle.log_model.specs.Recover.{learned_in, onto}
use Rattle.log_model.specs.declared.message.PaxMsg.TheVariants.{Accepted}
use Rattle.log_model.specs.World.{packets_of, Packet as LogPacket}
use Rattle.log_model.specs.declared.fact.Fact.{Fact as LogFact}
use Rattle.tier_laws.proofs.Rounds.StableRounds.{MoreLog}
use Rattle.tier_laws.proofs.Lists.ItemsByIndex.{get_end, get_left, get_push, get_within}

pub nearly : {V : Type 0} (u : ℕ) (soup : List (LogPacket V)) (L : List V) → Complete u soup L → Nearly u soup L
nearly u soup L k = record { at = λ p v m. inl (k.at p v m) }

pub log_weaker : {V : Type 0} (u : ℕ) (H : ℕ → List (LogFact V)) (soup : List (LogPacket V)) (L : List V) (G F : ℕ → V
    → Type 0) → ((p : ℕ) (v : V) → G p v → F p v) → LogPart u H soup L G → LogPart u H soup L F
log_weaker u H soup L G F f k = record { history = k.history; sound = k.sound; good = λ x l p b v d. f p v (k.good x l p b v d) }

-- a turn whose record is kept: its packets are sent, or none
kept_log : {V : Type 0} (u : ℕ) (H : ℕ → List (LogFact V)) (soup ys : List (LogPacket V)) (L : List V) (G : ℕ → V
    → Type 0) (x : ℕ) (t : Turn V) → LogPart u H soup L G → History u (wrote H x t) ys → SoupGrew u soup ys
    → ((p : ℕ) (b : Ballot) (v : V) → DidVote (onto t.facts (H x)) p b v → G p v)
    → LogPart u (wrote H x t) ys L G
kept_log {V} u H soup ys L G x t k history s new = record {
  history = history;
  good = put_each (λ y E. y < 2 * u + 1 → (p : ℕ) (b : Ballot) (v : V) → DidVote E p b v → G p v) H x (onto t.facts (H x)) (λ l. new) (λ y e. k.good y);
  sound = λ p v e. s.meets p v (k.sound p v e);
}

-- what is learned after the turn was chosen before it
learned_before : {V : Type 0} (u : ℕ) (H : ℕ → List (LogFact V)) (soup : List (LogPacket V)) (x : ℕ) (t : Turn V)
    → History u H soup → TurnOk u H soup x t → (y : ℕ) → y < 2 * u + 1 → (p : ℕ) (v : V)
    → slice_get (learned_in (wrote H x t y)) p ≡ Some v → Meets u soup p v
learned_before {V} u H soup x t k ok = put_each (λ y F. y < 2 * u + 1 → (p : ℕ) (v : V)
    → slice_get (learned_in F) p ≡ Some v → Meets u soup p v) H x (onto t.facts (H x))
    (λ l. (turn_rest u H soup x t ok).learned) (λ y e. k.learned y)

turn_nearly : {V : Type 0} (u : ℕ) (H : ℕ → List (LogFact V)) (soup : List (LogPacket V)) (L : List V) (G : ℕ → V
    → Type 0) (x : ℕ) (t : Turn V) → u < 128 → LogPart u H soup L G → Complete u soup L → TurnOk u H soup x t
    → History u (wrote H x t) (soup ++ packets_of x t.sends) → Nearly u (soup ++ packets_of x t.sends) L
turn_nearly {V} u H soup L G x t few k c ok new = record { at = λ p v m. at p v m (cases_lt p (length L)) }
  where
    at : (p : ℕ) (v : V) → Meets u (soup ++ packets_of x t.sends) p v → (p < length L) ⊎ (length L ≤ p) → (slice_get L p ≡ Some v) ⊎ (p ≡ length L)
    at p v m (inl l) =
        let w = get_within L p l in
        let e : w.0 ≡ v = agree u (wrote H x t) (soup ++ packets_of x t.sends) few new p w.0 v
        (meets-append u soup (packets_of x t.sends) p w.0 (k.sound p w.0 w.1)) m in
        inl (w.1 ∙ ap Some e)
    at zero v m (inr l) = inr (omega arith)
    at (suc q) v m (inr l) = past (cases_lt q (length L))
      where
        a : (y : ℕ) × (y < 2 * u + 1) × DidVote (wrote H x t y) (suc q) m.ballot v
        a = meets_voted u (wrote H x t) (soup ++ packets_of x t.sends) new (suc q) v m

        past : (q < length L) ⊎ (length L ≤ q) → (slice_get L (suc q) ≡ Some v) ⊎ (suc q ≡ length L)
        past (inl h) = inr (omega arith)
        past (inr h) =
            let below : suc q ≤ opening (wrote H x t a.0) = (votes_below (wrote H x t a.0) (suc q) m.ballot v (new.orderly a.0 a.1) a.2).0 in
            let w = get_within (learned_in (wrote H x t a.0)) q below in
            let e : slice_get L q ≡ Some w.0 = c.at q w.0 (learned_before u H soup x t k.history ok a.0 a.1 q w.0 w.1) in
            absurd (omega (arith, slice_get_within L q w.0 e))

-- WHAT AN EVENT AT ONE NODE LEAVES OF THE LOG

-- What x wrote grows from h to g, and the log stands at the packets ys.
pub record LogStep {V : Type 0} (u : ℕ) (h g : ℕ → List (LogFact V)) (ys : List (LogPacket V)) (L : List V) (G : ℕ → V → Type 0) (x : ℕ) : Type 0 where
  pub grew : AllGrew h g
  pub same : (y : ℕ) → (y == x) ≡ false → g y ≡ h y
  pub log : LogPart u g ys L G
  pub near : Nearly u ys L

-- the record of a turn is kept, and its packets are sent
pub turn_step : {V : Type 0} (u : ℕ) (h : ℕ → List (LogFact V)) (soup ys : List (LogPacket V)) (L : List V) (G : ℕ → V
    → Type 0) (x : ℕ) (t : Turn V) → u < 128 → LogPart u h soup L G → Complete u soup L → TurnOk u h soup x t
    → ((p : ℕ) (b : Ballot) (v : V) → DidVote (onto t.facts (h x)) p b v → G p v)
    → ys ≡ soup ++ packets_of x t.sends → LogStep u h (wrote h x t) ys L G x
turn_step {V} u h soup ys L G x t few k done ok new e = rw e (record {
  grew = grown h x t.facts ok.orderly;
  same = put_other h x (onto t.facts (h x));
  log = part;
  near = turn_nearly u h soup L G x t few k done ok part.history;
})
  where
    part : LogPart u (wrote h x t) (soup ++ packets_of x t.sends) L G
    part = kept_log u h soup (soup ++ packets_of x t.sends) L G x t k (turn_history u h soup x t k.history ok) (soup-append u soup (packets_of x t.sends)) new

pub turn_state_at : {V : Type 0} (u : ℕ) (h : ℕ → List (LogFact V)) (soup ys : List (LogPacket V)) (x : ℕ) (t : Turn V)
    (s : LogState V) → TurnOk u h soup x t → ys ≡ soup ++ packets_of x t.sends → s ≡ t.state
    → StateOk u (wrote h x t) (wrote h x t x) ys x s
turn_state_at u h soup ys x t s ok e f = rw (e, f) (turn_state u h soup x t ok)

-- nothing is sent
pub write_step : {V : Type 0} (u : ℕ) (h : ℕ → List (LogFact V)) (soup ys : List (LogPacket V)) (L : List V) (G : ℕ → V
    → Type 0) (x : ℕ) (t : Turn V) → LogPart u h soup L G → Complete u soup L → TurnOk u h soup x t
    → ((p : ℕ) (b : Ballot) (v : V) → DidVote (onto t.facts (h x)) p b v → G p v)
    → ys ≡ soup → LogStep u h (wrote h x t) ys L G x
write_step u h soup ys L G x t k done ok new e = rw e (record {
  grew = grown h x t.facts ok.orderly;
  same = put_other h x (onto t.facts (h x));
  log = kept_log u h soup soup L G x t k (write_history u h soup x t k.history ok) (soup-refl u soup) new;
  near = nearly u soup L done;
})

-- nothing is written
pub quiet_step : {V : Type 0} (u : ℕ) (h : ℕ → List (LogFact V)) (soup ys : List (LogPacket V)) (L : List V) (G : ℕ → V
    → Type 0) (x : ℕ) → LogPart u h soup L G → Complete u soup L → ys ≡ soup → LogStep u h h ys L G x
quiet_step u h soup ys L G x k done e = rw e (record { grew = all_same h; same = λ y f. refl; log = k; near = nearly u soup L done })

pub learned_more : {V : Type 0} (u : ℕ) (h : ℕ → List (LogFact V)) (soup : List (LogPacket V)) (L : List V) (x : ℕ)
    → x < 2 * u + 1 → History u h soup → Complete u soup L → MoreLog (learned_in (h x)) L
learned_more u h soup L x l k d = record { at = λ p v e. d.at p v (k.learned x l p v e) }

-- what a turn's facts and its state have learned was chosen
pub turn_more : {V : Type 0} (u : ℕ) (h : ℕ → List (LogFact V)) (soup : List (LogPacket V)) (L : List V) (x : ℕ)
    (t : Turn V) → TurnOk u h soup x t → Complete u soup L → MoreLog (learned_in (onto t.facts (h x))) L
turn_more u h soup L x t ok d = record { at = λ p v e. d.at p v ((turn_rest u h soup x t ok).learned p v e) }

pub state_more : {V : Type 0} (u : ℕ) (h : ℕ → List (LogFact V)) (soup : List (LogPacket V)) (L : List V) (x : ℕ)
    (t : Turn V) → TurnOk u h soup x t → Complete u soup L → MoreLog t.state.learned L
state_more u h soup L x t ok d = subst (λ z. MoreLog z L) (sym (turn_rest u h soup x t ok).state.learned) (turn_more u h soup L x t ok d)

-- THE LOG GROWS

pub grow_none : {V : Type 0} (u : ℕ) (soup : List (LogPacket V)) (L : List V) → Nearly u soup L → chosen_among u soup (length L) soup ≡ None → Complete u soup L
grow_none {V} u soup L k none = record { at = λ p v m. go p v m (k.at p v m) }
  where
    go : (p : ℕ) (v : V) → Meets u soup p v → (slice_get L p ≡ Some v) ⊎ (p ≡ length L) → slice_get L p ≡ Some v
    go p v m (inl e) = e
    go p v m (inr e) =
        let f : m.packet.msg ≡ Accepted m.ballot (length L) v = subst (λ z. m.packet.msg ≡ Accepted m.ballot z v) e m.is_accepted in
        let s : IsSomething (chosen_among u soup (length L) soup) = meets_now u soup (length L) soup m.place m.packet
        m.ballot v m.is_sent f (subst (λ z. is_reached u soup z m.ballot ≡ true) e m.is_reached_by) in
        absurd (let h = s.1 in cc)

pub chosen_now : {V : Type 0} (u : ℕ) (soup : List (LogPacket V)) (p : ℕ) (v : V) → chosen_among u soup p soup ≡ Some v → Meets u soup p v
chosen_now u soup p v e = now_meets u soup p soup v (λ j k f. (j, f)) e

pub grow_some : {V : Type 0} (u : ℕ) (H : ℕ → List (LogFact V)) (soup : List (LogPacket V)) (L : List V) (G : ℕ → V
    → Type 0) (v : V) → u < 128 → LogPart u H soup L G → Nearly u soup L → Meets u soup (length L) v → Complete u soup (L ++ v ∷ [])
grow_some {V} u H soup L G v few k n m = record { at = λ p w a. go p w a (n.at p w a) }
  where
    go : (p : ℕ) (w : V) → Meets u soup p w → (slice_get L p ≡ Some w) ⊎ (p ≡ length L) → slice_get (L ++ v ∷ []) p ≡ Some w
    go p w a (inl e) = get_left L (v ∷ []) p w e
    go p w a (inr e) =
        let same : v ≡ w = agree u H soup few k.history (length L) v w m (subst (λ z. Meets u soup z w) e a) in
        ap (slice_get (L ++ v ∷ [])) e ∙ get_end L v ∙ ap Some same

pub part_some : {V : Type 0} (u : ℕ) (H : ℕ → List (LogFact V)) (soup : List (LogPacket V)) (L : List V) (G : ℕ → V
    → Type 0) (v : V) → LogPart u H soup L G → Meets u soup (length L) v → LogPart u H soup (L ++ v ∷ []) G
part_some {V} u H soup L G v k m = record { history = k.history; good = k.good; sound = λ p w e. go p w (get_push L v p w e) }
  where
    go : (p : ℕ) (w : V) → (slice_get L p ≡ Some w) ⊎ ((p ≡ length L) × (v ≡ w)) → Meets u soup p w
    go p w (inl e) = k.sound p w e
    go p w (inr e) = subst (λ z. Meets u soup z w) (sym e.0) (subst (Meets u soup (length L)) e.1 m)

-- a value that is chosen was voted for, so it is good
pub meets_good : {V : Type 0} (u : ℕ) (H : ℕ → List (LogFact V)) (soup : List (LogPacket V)) (L : List V) (G : ℕ → V
    → Type 0) (p : ℕ) (v : V) → LogPart u H soup L G → Meets u soup p v → G p v
meets_good u H soup L G p v k m = let a = meets_voted u H soup k.history p v m in k.good a.0 a.1 p m.ballot v a.2
