-- Rows by the parts of a log that they change.
use Rattle.std.proofs.Common.{◌≡◌, ℕ, ◌+◌, ◌*◌, ◌≤◌, Bool, true, false, cond, [], ◌∷◌, ◌++◌, length, refl, sym, ap}
use Rattle.std.proofs.Common.{subst, ◌∙◌, inl, inr, arith, Option, Some, None}
use Rattle.std.specs.Prelude.{nat_le, ◌==◌, ◌&&◌, not, ◌⊎◌, IfSome, IsSome, option_map, if◌then◌else◌}
use Rattle.std.proofs.lemmas.Bool.{cond-true, eq-eqb}
use Rattle.aeg_base.specs.Ballots.{same_ballot}
use Rattle.aeg_base.specs.declared.names.Ballot.{Ballot}
use Rattle.aeg_base.specs.declared.limits.TheConstants.{POSITIONS}
use Rattle.log_model.specs.declared.turn.LogTurn.{LogTurn}
use Rattle.log_model.specs.declared.fact.Fact.TheVariants.{Accepted as Voted}
use Rattle.log_model.specs.declared.message.PaxMsg.TheVariants.{Accept, Accepted}
use Rattle.log_model.specs.declared.turn.Offering.TheVariants.{NoPromises, InFlight, LogFull, Taken, Free}
use Rattle.log_model.specs.Log.{Leader, LogState, Turn, told, open_at, stays, to_each, is, nobody, is_none, is_at}
use Rattle.log_model.specs.Rows.{promised_by, is_taken, wants_as, value_or, to_offer, offers, offer_as, offer, wants, kept_leader, accepts}
use Rattle.log_model.proofs.Ballots.{same_true}
use Rattle.paxos_parts.specs.declared.vote.Vote.{Vote}
use Rattle.paxos_parts.specs.Acceptor.{AcceptorState, voted_at, voted}
use Rattle.paxos_parts.specs.Learner.{LearnerState}
use Rattle.paxos_log.specs.declared.leading.Leading.{Leading}
use Rattle.paxos_log.specs.Parts.{offered_by, offer_out}
use Rattle.paxos_log.specs.TierLog.{NodeLog, with_state, as_leader, kept, sent, joined, IsLed, CanOffer}

-- what an acceptor reports at a position that isn't before the open one
pub report_is : {V : Type 0} (vote : Option (Vote V)) (f p : ℕ) → IfSome vote (λ v. v.at ≤ f) → f ≤ p
    → voted_at vote p ≡ (if f == p then voted_at vote f else None)
report_is None f p k l = grind arith
report_is (Some v) f p k l = grind arith

pub voted_here : {V : Type 0} (p f : ℕ) (b : Ballot) (v : V) → p ≡ f → voted_at (Some (record { at = p; ballot = b; value = v })) f ≡ Some (b, v)
voted_here p f b v e = cond-true (p == f) (Some (b, v)) None (eq-eqb p f e)

-- a leader of another ballot stops to lead
pub kept_is : {V : Type 0} (o : Option (Leading V)) (b : Ballot) → option_map as_leader (kept o b) ≡ kept_leader b (option_map as_leader o)
kept_is None b = refl
kept_is {V} (Some l) b = go (same_ballot l.ballot b)
  where
    go : (t : Bool) → option_map {T = Leading V} as_leader (cond t (Some l) None) ≡ cond t (Some (as_leader l)) None
    go true = refl
    go false = refl

pub kept_led : {V : Type 0} (a : AcceptorState V) (n : LearnerState V) (o : Option (Leading V)) (b : Ballot) (p : ℕ)
    (v : V) → IsLed a n o → IsLed (voted b p v) n (kept o b)
kept_led a n None b p v k = tt
kept_led {V} a n (Some l) b p v k = go (same_ballot l.ballot b) refl
  where
    go : (t : Bool) → same_ballot l.ballot b ≡ t → IsLed (voted b p v) n (cond t (Some l) None)
    go true e = (k.0, same_true l.ballot b e)
    go false e = tt

-- the state after a vote at the open position, whose leader is kept only where it leads with that ballot
pub accepted_state : {V : Type 0} (u : ℕ) (a c : AcceptorState V) (n : LearnerState V) (o k : Option (Leading V))
    (b : Ballot) (p : ℕ) (v w : V) → c ≡ voted b p w → w ≡ v → k ≡ kept o b → p ≡ length n.learned
    → joined c n k ≡ (accepts u (joined a n o) b p v).state
accepted_state u a c n o k b p v w e f h at = rw (e, f, h) (rw (voted_here p (length n.learned) b v at, kept_is o b) refl)

-- the turn of an offer of v with b
abbrev pub offer_turn : {V : Type 0} → ℕ → ℕ → LogState V → Option (Leader V) → Ballot → V → Turn V
offer_turn u x log leader b v = record {
  state = record { promised = log.promised; accepted = Some (b, v); learned = log.learned; seen = log.seen; leader = leader };
  facts = Voted (length log.learned) b v ∷ [];
  sends = to_each (2 * u + 1) (is x) (Accept b (length log.learned) v) ++ to_each (2 * u + 1) nobody (Accepted b (length log.learned) v);
  learned = None;
  idle = None;
}

abbrev sent_at : {V : Type 0} → Option (Leader V) → ℕ → Option (Leader V)
sent_at None p = None
sent_at (Some l) p = Some (record { ballot = l.ballot; led_at = l.led_at; promisers = l.promisers; best = l.best; last = Some p })

pair_of : {V : Type 0} (b c : Ballot) (v w : V) → ◌≡◌ {A = Option (Ballot × V)} (Some (b, v)) (Some (c, w)) → (b ≡ c) × (v ≡ w)
pair_of {V} b c v w e = let q : ◌≡◌ {A = Ballot × V} (b, v) (c, w) = cc in (ap (λ (z : Ballot × V). z.0) q, ap (λ (z : Ballot × V). z.1) q)

-- where a value is wanted and there, it is offered
pub offer_is : {V : Type 0} (u x : ℕ) (log : LogState V) (o : Option (Leader V)) (own : Option V) (b : Ballot) (v : V)
    → CanOffer (wants_as u log o) own → offered_by o (open_at log) own ≡ Some (b, v)
    → offer_as u x log o own ≡ offer_turn u x log (sent_at o (open_at log)) b v
offer_is u x log None own b v c e = absurd c
offer_is {V} u x log (Some l) own b v c e = go (nat_le (promised_by u l) u) (open_at log == POSITIONS)
    (is_at l.last (open_at log)) (is_taken (open_at log) l) c (to_offer (open_at log) l own) e
  where
    go : (a d f g : Bool)
        → CanOffer (cond a (NoPromises (promised_by u l))
        (cond d LogFull (cond f (InFlight (open_at log)) (cond g Taken (Free (open_at log)))))) own → (w : Option V)
        → option_map {T = V} {U = Ballot × V} (λ v. (l.ballot, v)) w ≡ Some (b, v)
        → cond a (stays log) (cond d (stays log) (cond f (stays log) (offers u x log l w))) ≡ offer_turn u x log (sent_at (Some l) (open_at log)) b v
    go true d f g c w e = absurd c
    go false true f g c w e = absurd c
    go false false true g c w e = absurd c
    go false false false g c None e = absurd (cc)
    go false false false g c (Some w) e = rw ((pair_of l.ballot b w v e).0, (pair_of l.ballot b w v e).1) refl

own_or : {V : Type 0} (t : Bool) (best : Option (Ballot × V)) (own : Option V) → (t && not (is_none best) ≡ true)
    ⊎ IsSome own → IsSome (cond t (value_or best own) own)
own_or true None own (inl e) = absurd (cc)
own_or true None own (inr s) = s
own_or true (Some a) own s = refl
own_or false best own (inl e) = absurd (cc)
own_or false best own (inr s) = s

some_mapped : {A B : Type 0} (f : A → B) (o : Option A) → IsSome o → IsSome (option_map f o)
some_mapped f None s = s
some_mapped f (Some a) s = refl

pub can_offer : {V : Type 0} (u : ℕ) (log : LogState V) (o : Option (Leader V)) (own : Option V)
    → CanOffer (wants_as u log o) own → IsSome (offered_by o (open_at log) own)
can_offer u log None own c = absurd c
can_offer {V} u log (Some l) own c = some_mapped {A = V} {B = Ballot × V} (λ v. (l.ballot, v))
    (to_offer (open_at log) l own)
    (own_or (open_at log == l.led_at) l.best own
    (go (nat_le (promised_by u l) u) (open_at log == POSITIONS) (is_at l.last (open_at log)) (is_taken (open_at log) l) refl c))
  where
    go : (a d f g : Bool) → is_taken (open_at log) l ≡ g
        → CanOffer (cond a (NoPromises (promised_by u l))
        (cond d LogFull (cond f (InFlight (open_at log)) (cond g Taken (Free (open_at log)))))) own
        → (is_taken (open_at log) l ≡ true) ⊎ IsSome own
    go true d f g e c = absurd c
    go false true f g e c = absurd c
    go false false true g e c = absurd c
    go false false false true e c = inl e
    go false false false false e c = inr c

-- a leader offers with the promised ballot
pub offer_ballot : {V : Type 0} (a : AcceptorState V) (n : LearnerState V) (o : Option (Leading V)) (f : ℕ)
    (own : Option V) (b : Ballot) (v : V) → IsLed a n o → offered_by (option_map as_leader o) f own ≡ Some (b, v) → b ≡ a.promised
offer_ballot a n None f own b v k e = absurd (cc)
offer_ballot {V} a n (Some l) f own b v k e = go (to_offer f (as_leader l) own) e
  where
    go : (w : Option V) → option_map {T = V} {U = Ballot × V} (λ v. (l.ballot, v)) w ≡ Some (b, v) → b ≡ a.promised
    go None e = absurd (cc)
    go (Some w) e = sym (pair_of l.ballot b w v e).0 ∙ k.1

pub sent_led : {V : Type 0} (a : AcceptorState V) (n : LearnerState V) (o : Option (Leading V)) (b : Ballot) (p : ℕ)
    (v : V) → IsLed a n o → b ≡ a.promised → IsLed (voted b p v) n (sent o p)
sent_led a n None b p v k e = tt
sent_led a n (Some l) b p v k e = (k.0, k.1 ∙ sym e)

sent_is : {V : Type 0} (o : Option (Leading V)) (p : ℕ) → option_map as_leader (sent o p) ≡ sent_at (option_map as_leader o) p
sent_is None p = refl
sent_is (Some l) p = refl

-- the state after an offer
pub offered_state : {V : Type 0} (u x : ℕ) (a c : AcceptorState V) (n : LearnerState V) (o k : Option (Leading V))
    (own : Option V) (b : Ballot) (p : ℕ) (v : V) → CanOffer (wants u (joined a n o)) own → IsLed a n o
    → Some (b, v) ≡ offered_by (option_map as_leader o) p own → p ≡ length n.learned → c ≡ voted b p v → k ≡ sent o p
    → joined c n k ≡ (offer u x (joined a n o) own).state
offered_state u x a c n o k own b p v can led e at f h =
    let there : offered_by (option_map as_leader o) (length n.learned) own ≡ Some (b, v) = rw at at (sym e) in
    let same : b ≡ a.promised = offer_ballot a n o p own b v led (sym e) in
    rw (f, h, offer_is u x (joined a n o) (option_map as_leader o) own b v can there) (rw (voted_here p (length n.learned) b v at, sent_is o p, at, same) refl)

offered_out : {V : Type 0} (u x : ℕ) (a : AcceptorState V) (n : LearnerState V) (o : Option (Leading V)) (own : Option V) (b : Ballot) (p : ℕ) (v : V)
    → CanOffer (wants u (joined a n o)) own → Some (b, v) ≡ offered_by (option_map as_leader o) p own
    → p ≡ length n.learned → offer_out u x b p v ≡ told (offer u x (joined a n o) own)
offered_out u x a n o own b p v can e at =
    let there : offered_by (option_map as_leader o) (length n.learned) own ≡ Some (b, v) = rw at at (sym e) in
    rw (offer_is u x (joined a n o) (option_map as_leader o) own b v can there) (rw at refl)

-- what an offer writes down and sends
pub offered_turn : {V : Type 0} (u x : ℕ) (a : AcceptorState V) (n : LearnerState V) (o : Option (Leading V)) (own : Option V) (b : Ballot) (p : ℕ) (v : V)
    → CanOffer (wants u (joined a n o)) own → Some (b, v) ≡ offered_by (option_map as_leader o) p own
    → p ≡ length n.learned → (m : ℕ) (out : LogTurn V) → m ≡ u → out ≡ offer_out m x b p v
    → out ≡ told (offer u x (joined a n o) own)
offered_turn u x a n o own b p v can e at m out same is = is ∙ rw same (offered_out u x a n o own b p v can e at)

-- what is asked of the log as contracts see it is asked of its parts
pub can_at : {V : Type 0} (view now : NodeLog V) (own : Option V) → view ≡ now
    → CanOffer (wants now.faults now.state) own → CanOffer (wants view.faults view.state) own
can_at {V} view now own e can = subst (λ (log : NodeLog V). CanOffer (wants log.faults log.state) own) (sym e) can

pub offer_after : {V : Type 0} (view now new : NodeLog V) (own : Option V) → view ≡ now
    → new ≡ with_state view (offer view.faults view.me view.state own).state
    → new ≡ with_state now (offer now.faults now.me now.state own).state
offer_after {V} view now new own e k = subst (λ (log : NodeLog V). new ≡ with_state log (offer log.faults log.me log.state own).state) e k

pub offer_told : {V : Type 0} (view now : NodeLog V) (out : LogTurn V) (own : Option V) → view ≡ now
    → out ≡ told (offer view.faults view.me view.state own) → out ≡ told (offer now.faults now.me now.state own)
offer_told {V} view now out own e k = subst (λ (log : NodeLog V). out ≡ told (offer log.faults log.me log.state own)) e k
