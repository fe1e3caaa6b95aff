-- Where the values come from: after a turn a node has voted for values that were voted for before, and for the own value of an offer.
use Rattle.std.proofs.Common.{◌≡◌, ℕ, ◌+◌, ◌*◌, ◌<◌, Bool, true, false, cond, List, [], length, refl, sym, subst, inl, inr, Option, Some, None}
use Rattle.std.specs.Prelude.{nat_lt, nat_le, ◌==◌, ◌&&◌, not, ◌⊎◌, IfSome}
use Rattle.std.proofs.lemmas.Bool.{cond_both, eqb-true}
use Rattle.aeg_base.specs.Ballots.{same_ballot, is_below, is_at_most}
use Rattle.aeg_base.specs.declared.names.Ballot.{Ballot}
use Rattle.aeg_base.specs.declared.limits.TheConstants.{POSITIONS}
use Rattle.log_model.specs.declared.fact.Fact.{Fact}
use Rattle.log_model.specs.declared.message.PaxMsg.{PaxMsg}
use Rattle.log_model.specs.declared.message.PaxMsg.TheVariants.{Prepare, Promise, Accept, Accepted, Ask, Learn, Behind}
use Rattle.log_model.specs.declared.turn.LogIdle.{LogIdle}
use Rattle.log_model.specs.declared.turn.LogIdle.TheVariants.{BallotSpent, Stale, Behind as IsBehind, Nothing}
use Rattle.log_model.specs.Log.{Leader, LogState, Turn, open_at, idles, stays, says, has, seen_at, count_below, is_none}
use Rattle.log_model.specs.Log.{is_at, has_ballot, is_from, with_ballot}
use Rattle.log_model.specs.Rows.{tell, last_counter, leads, lead, promises, joins, on_promise, promised_by, value_or}
use Rattle.log_model.specs.Rows.{to_offer, offers, offer_as, accepts, learned_turn, notes, on_msg}
use Rattle.log_model.specs.Recover.{onto}
use Rattle.log_model.specs.World.{Packet}
use Rattle.log_model.proofs.History.{DidVote}
use Rattle.log_model.proofs.Invariant.{MsgOk, LeaderOk, IsBacked}

-- some node has voted for v at p
abbrev pub Stood : {V : Type 0} → ℕ → (ℕ → List (Fact V)) → ℕ → V → Type 0
Stood u h p v = (z : ℕ) × (c : Ballot) × (z < 2 * u + 1) × DidVote (h z) p c v

-- A record, and no abbrev for the function type: else nothing settles the `_`s of `cond_both`
pub record Origins {V : Type 0} (u : ℕ) (h : ℕ → List (Fact V)) (x : ℕ) (own : Option V) (t : Turn V) : Type 0 where
  pub from : (p : ℕ) (b : Ballot) (v : V) → DidVote (onto t.facts (h x)) p b v → Stood u h p v ⊎ ((own ≡ Some v) × (p ≡ length t.state.learned))

-- A turn that adds no vote. It names its turn: a leaf `record { .. }` would not settle the `_`s either
still_from : {V : Type 0} (u : ℕ) (h : ℕ → List (Fact V)) (x : ℕ) (own : Option V) (t : Turn V) → x < 2 * u + 1
    → ((p : ℕ) (b : Ballot) (v : V) → DidVote (onto t.facts (h x)) p b v → DidVote (h x) p b v) → Origins u h x own t
still_from u h x own t lx f = record { from = λ p b v d. inl (x, b, lx, f p b v d) }

idle_from : {V : Type 0} (u : ℕ) (h : ℕ → List (Fact V)) (x : ℕ) (own : Option V) (log : LogState V) (why : LogIdle)
    → x < 2 * u + 1 → Origins u h x own (idles log why)
idle_from u h x own log why lx = still_from u h x own (idles log why) lx (λ p b v d. d)

stays_from : {V : Type 0} (u : ℕ) (h : ℕ → List (Fact V)) (x : ℕ) (own : Option V) (log : LogState V) → x < 2 * u + 1 → Origins u h x own (stays log)
stays_from u h x own log lx = still_from u h x own (stays log) lx (λ p b v d. d)

tell_from : {V : Type 0} (u : ℕ) (h : ℕ → List (Fact V)) (x : ℕ) (own : Option V) (log : LogState V) (s p : ℕ)
    → x < 2 * u + 1 → Origins u h x own (tell log s p)
tell_from u h x own log s p lx = still_from u h x own (tell log s p) lx (λ p b v d. d)

accepts_from : {V : Type 0} (u : ℕ) (h : ℕ → List (Fact V)) (x : ℕ) (log : LogState V) (b : Ballot) (p : ℕ) (v : V)
    → x < 2 * u + 1 → b.node < 2 * u + 1 → DidVote (h b.node) p b v → Origins u h x None (accepts u log b p v)
accepts_from {V} u h x log b p v lx lb d = record { from = new }
  where
    new : (q : ℕ) (c : Ballot) (w : V) → ((q ≡ p) × (c ≡ b) × (w ≡ v)) ⊎ DidVote (h x) q c w → Stood u h q w ⊎ ((None ≡ Some w) × (q ≡ length log.learned))
    new q c w (inl e) = inl (b.node, b, lb, rw (e.0, e.2) d)
    new q c w (inr k) = inl (x, c, lx, k)

promise_from : {V : Type 0} (u : ℕ) (h : ℕ → List (Fact V)) (x : ℕ) (log : LogState V) (o : Option (Leader V)) (s : ℕ)
    (b : Ballot) (p : ℕ) (a : Option (Ballot × V)) → x < 2 * u + 1 → Origins u h x None (on_promise log o s b p a)
promise_from u h x log None s b p a lx = idle_from u h x None log Nothing lx
promise_from u h x log (Some l) s b p a lx = cond_both (same_ballot l.ballot b
    && (is_none l.last && not (has l.promisers s))) _ _ (Origins u h x None)
    (λ e. still_from u h x None (joins log l s p a) lx (λ p b v d. d)) (λ e. idle_from u h x None log Nothing lx)

pub msg_from : {V : Type 0} (u : ℕ) (h : ℕ → List (Fact V)) (soup : List (Packet V)) (x : ℕ) (log : LogState V) (s : ℕ)
    (m : PaxMsg V) → x < 2 * u + 1 → MsgOk u h soup s m → Origins u h x None (on_msg u log s m)
msg_from u h soup x log s (Prepare b p) lx k = cond_both (nat_lt p (open_at log)) _ _ (Origins u h x None) (λ e. tell_from u h x None log s p lx)
    (λ e. cond_both (is_at_most b log.promised) _ _ (Origins u h x None) (λ e. idle_from u h x None log (Stale _) lx)
    (λ e. still_from u h x None (promises log s b p) lx (λ p b v d. d)))
msg_from u h soup x log s (Promise b p a) lx k = promise_from u h x log log.leader s b p a lx
msg_from u h soup x log s (Accept b p v) lx k = cond_both (nat_lt p (open_at log)) _ _ (Origins u h x None) (λ e. tell_from u h x None log s p lx)
    (λ e. cond_both (nat_lt (open_at log) p) _ _ (Origins u h x None) (λ e. still_from u h x None (says log _) lx (λ p b v d. d))
    (λ e. cond_both (is_below b log.promised) _ _ (Origins u h x None) (λ e. idle_from u h x None log (Stale _) lx)
    (λ e. cond_both (has_ballot b log.accepted) _ _ (Origins u h x None)
    (λ e. still_from u h x None (says log _) lx (λ p b v d. d)) (λ e. accepts_from u h x log b p v lx k.0 k.1))))
msg_from u h soup x log s (Accepted b p v) lx k = cond_both (nat_lt p (open_at log)) _ _ (Origins u h x None) (λ e. idle_from u h x None log Nothing lx)
    (λ e. cond_both (nat_lt (open_at log) p) _ _ (Origins u h x None) (λ e. idle_from u h x None log (IsBehind _) lx)
    (λ e. cond_both (is_from b (seen_at log.seen s)) _ _ (Origins u h x None) (λ e. idle_from u h x None log Nothing lx)
    (λ e. cond_both (nat_lt u (count_below (2 * u + 1) (with_ballot log.seen s b))) _ _ (Origins u h x None)
    (λ e. still_from u h x None (learned_turn log p v []) lx (λ p b v d. d))
    (λ e. still_from u h x None (notes log s b) lx (λ p b v d. d)))))
msg_from u h soup x log s (Learn p v) lx k = cond_both (nat_lt p (open_at log)) _ _ (Origins u h x None) (λ e. idle_from u h x None log Nothing lx)
    (λ e. cond_both (nat_lt (open_at log) p) _ _ (Origins u h x None) (λ e. idle_from u h x None log (IsBehind _) lx)
    (λ e. still_from u h x None (learned_turn log p v _) lx (λ p b v d. d)))
msg_from u h soup x log s (Ask p) lx k = cond_both (nat_lt p (open_at log)) _ _ (Origins u h x None)
    (λ e. tell_from u h x None log s p lx) (λ e. idle_from u h x None log Nothing lx)
msg_from u h soup x log s (Behind p) lx k = cond_both (nat_lt p (open_at log)) _ _ (Origins u h x None)
    (λ e. tell_from u h x None log s p lx) (λ e. idle_from u h x None log Nothing lx)

pub lead_from : {V : Type 0} (u : ℕ) (h : ℕ → List (Fact V)) (x : ℕ) (log : LogState V) → x < 2 * u + 1 → Origins u h x None (lead u x log)
lead_from u h x log lx = cond_both (log.promised.counter == last_counter) _ _ (Origins u h x None)
    (λ e. idle_from u h x None log BallotSpent lx) (λ e. still_from u h x None (leads u x log) lx (λ p b v d. d))

pub offer_from : {V : Type 0} (u : ℕ) (h : ℕ → List (Fact V)) (x : ℕ) (log : LogState V) (o : Option (Leader V))
    (own : Option V) → x < 2 * u + 1 → IfSome o (λ l. LeaderOk u h (h x) x log l) → Origins u h x own (offer_as u x log o own)
offer_from u h x log None own lx k = stays_from u h x own log lx
offer_from {V} u h x log (Some l) own lx k = cond_both (nat_le (promised_by u l) u) _ _ (Origins u h x own) (λ e. stays_from u h x own log lx)
    (λ e. cond_both (open_at log == POSITIONS) _ _ (Origins u h x own) (λ e. stays_from u h x own log lx)
    (λ e. cond_both (is_at l.last (open_at log)) _ _ (Origins u h x own) (λ e. stays_from u h x own log lx) (λ e. by (to_offer (open_at log) l own) refl)))
  where
    value : (v : V) → to_offer (open_at log) l own ≡ Some v → Stood u h (open_at log) v ⊎ (own ≡ Some v)
    value v e = at (open_at log == l.led_at) refl e
      where
        reported : (best : Option (Ballot × V)) → IsBacked u h l.ballot l.led_at best → open_at log ≡ l.led_at
            → value_or best own ≡ Some v → Stood u h (open_at log) v ⊎ (own ≡ Some v)
        reported None back f e = inr e
        reported (Some a) back f e = let same : a.1 ≡ v = cc in inl (back.1.0, a.0, back.1.1, rw (f, ← same) back.1.2)

        at : (t : Bool) → (open_at log == l.led_at) ≡ t → cond t (value_or l.best own) own ≡ Some v → Stood u h (open_at log) v ⊎ (own ≡ Some v)
        at true f e = reported l.best k.backed (eqb-true _ _ f) e
        at false f e = inr e

    there : (q : ℕ) (w v : V) → q ≡ open_at log → w ≡ v → Stood u h (open_at log) v ⊎ (own ≡ Some v) → Stood u h q w
        ⊎ ((own ≡ Some w) × (q ≡ length log.learned))
    there q w v e f (inl s) = inl (subst (λ z. Stood u h q z) (sym f) (subst (λ z. Stood u h z v) (sym e) s))
    there q w v e f (inr o) = inr (subst (λ z. own ≡ Some z) (sym f) o, e)

    new : (v : V) → to_offer (open_at log) l own ≡ Some v → (q : ℕ) (c : Ballot) (w : V)
        → ((q ≡ open_at log) × (c ≡ l.ballot) × (w ≡ v)) ⊎ DidVote (h x) q c w → Stood u h q w
        ⊎ ((own ≡ Some w) × (q ≡ length log.learned))
    new v e q c w (inl f) = there q w v f.0 f.2 (value v e)
    new v e q c w (inr d) = inl (x, c, lx, d)

    by : (w : Option V) → to_offer (open_at log) l own ≡ w → Origins u h x own (offers u x log l w)
    by None e = stays_from u h x own log lx
    by (Some v) e = record { from = new v e }
