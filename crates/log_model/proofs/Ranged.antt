-- What is in range stays in range, row by row.
pub use Rattle.log_model.proofs.Basics.{get_push, length_push}
use Rattle.std.proofs.Common.{◌≡◌, ℕ, ◌+◌, ◌*◌, ◌<◌, ◌≤◌, Bool, false, cond, List, [], ◌∷◌, length, refl, sym, ◌∙◌}
use Rattle.std.proofs.Common.{subst, inl, inr, arith, Option, Some, None, zero, suc}
use Rattle.std.specs.Prelude.{slice_get, nat_lt, nat_le, ◌==◌, ◌&&◌, not, ◌⊎◌, IfSome}
use Rattle.std.specs.List.{AllByRecursion}
use Rattle.std.proofs.lemmas.Bool.{cond_both, eqb-true, eqb-false, and_parts}
use Rattle.std.proofs.lemmas.Option.{slice_get_within}
use Rattle.aeg_base.specs.Ballots.{same_ballot, is_below, is_at_most}
use Rattle.aeg_base.specs.declared.names.Ballot.{Ballot}
use Rattle.aeg_base.specs.declared.limits.TheConstants.{POSITIONS}
use Rattle.log_model.specs.declared.message.PaxMsg.{PaxMsg}
use Rattle.log_model.specs.declared.message.PaxMsg.TheVariants.{Prepare, Promise, Accept, Accepted, Ask, Learn, Behind}
use Rattle.log_model.specs.declared.turn.LogIdle.{LogIdle}
use Rattle.log_model.specs.declared.turn.LogIdle.TheVariants.{BallotSpent, Stale, Behind as IsBehind, Nothing}
use Rattle.log_model.specs.Log.{Leader, LogState, open_at, idles, stays, says, has, seen_at, count_below, to_each}
use Rattle.log_model.specs.Log.{nobody, is, is_none, is_at, is_better, has_ballot, is_from, with_ballot}
use Rattle.log_model.specs.Rows.{tells, tell, last_counter, next_ballot, leads, lead, reports, promises, on_prepare}
use Rattle.log_model.specs.Rows.{joins, on_promise, promised_by, value_or, to_offer, offers, offer_as, offer}
use Rattle.log_model.specs.Rows.{kept_leader, accepts, says_again, on_accept, learned_turn, notes, on_accepted}
use Rattle.log_model.specs.Rows.{on_learn, on_ask, on_msg}
use Rattle.log_model.proofs.Basics.{between, every-append}
use Rattle.log_model.specs.Ranges.{IsVoteIn, IsMessageIn, IsLeaderIn, IsLogIn, IsSendIn, IsTurnIn, MayRaise, IsOwnIn}

-- a message to each node below n of a tier of at least as many
to_each_in : {V : Type 0} (u : ℕ) (Q : ℕ → V → Type 0) (F : Ballot → Type 0) (n : ℕ) (skip : ℕ → Bool) (m : PaxMsg V)
    → n ≤ 2 * u + 1 → IsMessageIn Q F m → AllByRecursion (IsSendIn u Q F) (to_each n skip m)
to_each_in u Q F zero skip m l k = tt
to_each_in u Q F (suc n) skip m l k = every-append (IsSendIn u Q F) (to_each n skip m) _ (to_each_in u Q F n skip m (omega arith) k)
    (cond_both (skip n) [] ((n, m) ∷ []) (AllByRecursion (IsSendIn u Q F)) (λ e. tt) (λ e. ((omega arith, k), tt)))

to_all_in : {V : Type 0} (u : ℕ) (Q : ℕ → V → Type 0) (F : Ballot → Type 0) (skip : ℕ → Bool) (m : PaxMsg V)
    → IsMessageIn Q F m → AllByRecursion (IsSendIn u Q F) (to_each (2 * u + 1) skip m)
to_all_in u Q F skip m k = to_each_in u Q F (2 * u + 1) skip m (omega arith) k

-- a turn that changes nothing
idle_in : {V : Type 0} (u : ℕ) (Q : ℕ → V → Type 0) (F : Ballot → Type 0) (log : LogState V) (why : LogIdle) → IsLogIn Q F log → IsTurnIn u Q F (idles log why)
idle_in u Q F log why k = record { state = k; facts = tt; sends = tt }

stays_in : {V : Type 0} (u : ℕ) (Q : ℕ → V → Type 0) (F : Ballot → Type 0) (log : LogState V) → IsLogIn Q F log → IsTurnIn u Q F (stays log)
stays_in u Q F log k = record { state = k; facts = tt; sends = tt }

-- a learned value is told
tell_in : {V : Type 0} (u : ℕ) (Q : ℕ → V → Type 0) (F : Ballot → Type 0) (log : LogState V) (s p : ℕ) → s < 2 * u + 1
    → IsLogIn Q F log → IsTurnIn u Q F (tell log s p)
tell_in {V} u Q F log s p l k = go (slice_get log.learned p) refl
  where
    go : (o : Option V) → slice_get log.learned p ≡ o → IsTurnIn u Q F (says log (tells s p o))
    go None e = record { state = k; facts = tt; sends = tt }
    go (Some v) e = let w = k.within in record {
      state = k;
      facts = tt;
      sends = ((l, (omega (arith, slice_get_within log.learned p v e), k.learned p v e)), tt);
    }

-- PROMISES

report_in : {V : Type 0} (Q : ℕ → V → Type 0) (F : Ballot → Type 0) (log : LogState V) (p : ℕ) → IsLogIn Q F log → IsVoteIn Q F p (reports log p)
report_in Q F log p k = cond_both (open_at log == p) log.accepted None (IsVoteIn Q F p)
    (λ e. subst (λ z. IsVoteIn Q F z log.accepted) (eqb-true (open_at log) p e) k.accepted) (λ e. tt)

promises_in : {V : Type 0} (u : ℕ) (Q : ℕ → V → Type 0) (F : Ballot → Type 0) (log : LogState V) (s : ℕ) (b : Ballot)
    (p : ℕ) → s < 2 * u + 1 → IsLogIn Q F log → F b → p ≤ POSITIONS → IsTurnIn u Q F (promises log s b p)
promises_in u Q F log s b p l k f w = record {
  state = record { promised = inr f; within = k.within; accepted = k.accepted; learned = k.learned; leader = tt };
  facts = (f, tt);
  sends = ((l, (f, (w, report_in Q F log p k))), tt);
}

prepare_in : {V : Type 0} (u : ℕ) (Q : ℕ → V → Type 0) (F : Ballot → Type 0) (log : LogState V) (s : ℕ) (b : Ballot)
    (p : ℕ) → s < 2 * u + 1 → IsLogIn Q F log → F b → p ≤ POSITIONS → IsTurnIn u Q F (on_prepare log s b p)
prepare_in u Q F log s b p l k f w = cond_both (nat_lt p (open_at log)) _ _ (IsTurnIn u Q F) (λ e. tell_in u Q F log s p l k)
    (λ e. cond_both (is_at_most b log.promised) _ _ (IsTurnIn u Q F) (λ e. idle_in u Q F log (Stale log.promised) k) (λ e. promises_in u Q F log s b p l k f w))

-- the better report at the position that was open as the leader began
best_in : {V : Type 0} (Q : ℕ → V → Type 0) (F : Ballot → Type 0) (l : Leader V) (p : ℕ) (a : Option (Ballot × V))
    → IsLeaderIn Q F l → IsVoteIn Q F p a → IsVoteIn Q F l.led_at (cond ((p == l.led_at) && is_better a l.best) a l.best)
best_in Q F l p a k v = cond_both ((p == l.led_at) && is_better a l.best) a l.best (IsVoteIn Q F l.led_at)
    (λ e. subst (λ z. IsVoteIn Q F z a) (eqb-true p l.led_at (and_parts (p == l.led_at) (is_better a l.best) e).0) v) (λ e. k.best)

joins_in : {V : Type 0} (u : ℕ) (Q : ℕ → V → Type 0) (F : Ballot → Type 0) (log : LogState V) (l : Leader V) (s p : ℕ)
    (a : Option (Ballot × V)) → IsLogIn Q F log → IsLeaderIn Q F l → IsVoteIn Q F p a → IsTurnIn u Q F (joins log l s p a)
joins_in u Q F log l s p a k n v = record {
  state = record {
    promised = k.promised;
    within = k.within;
    accepted = k.accepted;
    learned = k.learned;
    leader = record { ballot = n.ballot; best = best_in Q F l p a n v };
  };
  facts = tt;
  sends = tt;
}

promise_in : {V : Type 0} (u : ℕ) (Q : ℕ → V → Type 0) (F : Ballot → Type 0) (log : LogState V) (o : Option (Leader V))
    (s : ℕ) (b : Ballot) (p : ℕ) (a : Option (Ballot × V)) → IsLogIn Q F log → IfSome o (IsLeaderIn Q F)
    → IsVoteIn Q F p a → IsTurnIn u Q F (on_promise log o s b p a)
promise_in u Q F log None s b p a k n v = idle_in u Q F log Nothing k
promise_in u Q F log (Some l) s b p a k n v = cond_both (same_ballot l.ballot b
    && (is_none l.last && not (has l.promisers s))) _ _ (IsTurnIn u Q F) (λ e. joins_in u Q F log l s p a k n v)
    (λ e. idle_in u Q F log Nothing k)

-- ACCEPTING

kept_in : {V : Type 0} (Q : ℕ → V → Type 0) (F : Ballot → Type 0) (b : Ballot) (o : Option (Leader V))
    → IfSome o (IsLeaderIn Q F) → IfSome (kept_leader b o) (IsLeaderIn Q F)
kept_in Q F b None k = tt
kept_in {V} Q F b (Some l) k = cond_both (same_ballot l.ballot b) (Some l) None (λ (o : Option (Leader V)). IfSome o (IsLeaderIn Q F)) (λ e. k) (λ e. tt)

accepts_in : {V : Type 0} (u : ℕ) (Q : ℕ → V → Type 0) (F : Ballot → Type 0) (log : LogState V) (b : Ballot) (p : ℕ)
    (v : V) → IsLogIn Q F log → p ≡ open_at log → F b → p < POSITIONS → Q p v → IsTurnIn u Q F (accepts u log b p v)
accepts_in u Q F log b p v k e f w q = record {
  state = record {
    promised = inr f;
    within = k.within;
    accepted = subst (λ z. IsVoteIn Q F z (Some (b, v))) e (w, (f, q));
    learned = k.learned;
    leader = kept_in Q F b log.leader k.leader;
  };
  facts = ((w, (f, q)), tt);
  sends = to_all_in u Q F nobody (Accepted b p v) (f, (w, q));
}

-- what was accepted is told again with the ballot of the message
again_in : {V : Type 0} (u : ℕ) (Q : ℕ → V → Type 0) (F : Ballot → Type 0) (b : Ballot) (p : ℕ)
    (a : Option (Ballot × V)) → F b → IsVoteIn Q F p a → AllByRecursion (IsSendIn u Q F) (says_again u b p a)
again_in u Q F b p None f k = tt
again_in u Q F b p (Some a) f k = to_all_in u Q F nobody (Accepted b p a.1) (f, (k.0, k.1.1))

accept_in : {V : Type 0} (u : ℕ) (Q : ℕ → V → Type 0) (F : Ballot → Type 0) (log : LogState V) (s : ℕ) (b : Ballot)
    (p : ℕ) (v : V) → s < 2 * u + 1 → IsLogIn Q F log → F b → p < POSITIONS → Q p v → IsTurnIn u Q F (on_accept u log s b p v)
accept_in u Q F log s b p v l k f w q = cond_both (nat_lt p (open_at log)) _ _ (IsTurnIn u Q F) (λ e. tell_in u Q F log s p l k)
    (λ e. cond_both (nat_lt (open_at log) p) _ _ (IsTurnIn u Q F) (λ g. record { state = k; facts = tt; sends = ((l, k.within), tt) })
    (λ g. cond_both (is_below b log.promised) _ _ (IsTurnIn u Q F) (λ h. idle_in u Q F log (Stale log.promised) k)
    (λ h. cond_both (has_ballot b log.accepted) _ _ (IsTurnIn u Q F)
    (λ j. record {
      state = k;
      facts = tt;
      sends = again_in u Q F b p log.accepted f
          (subst (λ z. IsVoteIn Q F z log.accepted) (sym (between p (open_at log) e g)) k.accepted);
    })
    (λ j. accepts_in u Q F log b p v k (between p (open_at log) e g) f w q))))

-- LEARNING

learned_in : {V : Type 0} (u : ℕ) (Q : ℕ → V → Type 0) (F : Ballot → Type 0) (log : LogState V) (p : ℕ) (v : V)
    (sends : List (ℕ × PaxMsg V)) → IsLogIn Q F log → p ≡ open_at log → p < POSITIONS → Q p v
    → AllByRecursion (IsSendIn u Q F) sends → IsTurnIn u Q F (learned_turn log p v sends)
learned_in {V} u Q F log p v sends k e w q s = record {
  state = record {
    promised = k.promised;
    within = omega (arith, length_push log.learned v);
    accepted = tt;
    learned = λ r x f. at r x (get_push log.learned v r x f);
    leader = k.leader;
  };
  facts = ((w, q), tt);
  sends = s;
}
  where
    at : (r : ℕ) (x : V) → (slice_get log.learned r ≡ Some x) ⊎ ((r ≡ length log.learned) × (v ≡ x)) → Q r x
    at r x (inl f) = k.learned r x f
    at r x (inr f) = subst (λ z. Q z x) (e ∙ sym f.0) (subst (λ z. Q p z) f.1 q)

notes_in : {V : Type 0} (u : ℕ) (Q : ℕ → V → Type 0) (F : Ballot → Type 0) (log : LogState V) (s : ℕ) (b : Ballot)
    → IsLogIn Q F log → IsTurnIn u Q F (notes log s b)
notes_in u Q F log s b k = record {
  state = record {
    promised = k.promised;
    within = k.within;
    accepted = k.accepted;
    learned = k.learned;
    leader = k.leader;
  };
  facts = tt;
  sends = tt;
}

accepted_in : {V : Type 0} (u : ℕ) (Q : ℕ → V → Type 0) (F : Ballot → Type 0) (log : LogState V) (s : ℕ) (b : Ballot)
    (p : ℕ) (v : V) → IsLogIn Q F log → p < POSITIONS → Q p v → IsTurnIn u Q F (on_accepted u log s b p v)
accepted_in u Q F log s b p v k w q = cond_both (nat_lt p (open_at log)) _ _ (IsTurnIn u Q F) (λ e. idle_in u Q F log Nothing k)
    (λ e. cond_both (nat_lt (open_at log) p) _ _ (IsTurnIn u Q F) (λ g. idle_in u Q F log (IsBehind (open_at log)) k)
    (λ g. cond_both (is_from b (seen_at log.seen s)) _ _ (IsTurnIn u Q F) (λ h. idle_in u Q F log Nothing k)
    (λ h. cond_both (nat_lt u (count_below (2 * u + 1) (with_ballot log.seen s b))) _ _ (IsTurnIn u Q F)
    (λ j. learned_in u Q F log p v [] k (between p (open_at log) e g) w q tt) (λ j. notes_in u Q F log s b k))))

learn_in : {V : Type 0} (u : ℕ) (Q : ℕ → V → Type 0) (F : Ballot → Type 0) (log : LogState V) (s p : ℕ) (v : V)
    → s < 2 * u + 1 → IsLogIn Q F log → p < POSITIONS → Q p v → IsTurnIn u Q F (on_learn log s p v)
learn_in u Q F log s p v l k w q = cond_both (nat_lt p (open_at log)) _ _ (IsTurnIn u Q F) (λ e. idle_in u Q F log Nothing k)
    (λ e. cond_both (nat_lt (open_at log) p) _ _ (IsTurnIn u Q F) (λ g. idle_in u Q F log (IsBehind (open_at log)) k)
    (λ g. learned_in u Q F log p v ((s, Ask (p + 1)) ∷ []) k (between p (open_at log) e g) w q ((l, omega arith), tt)))

ask_in : {V : Type 0} (u : ℕ) (Q : ℕ → V → Type 0) (F : Ballot → Type 0) (log : LogState V) (s p : ℕ) → s < 2 * u + 1
    → IsLogIn Q F log → IsTurnIn u Q F (on_ask log s p)
ask_in u Q F log s p l k = cond_both (nat_lt p (open_at log)) _ _ (IsTurnIn u Q F) (λ e. tell_in u Q F log s p l k) (λ e. idle_in u Q F log Nothing k)

-- THE ROWS

pub msg_in : {V : Type 0} (u : ℕ) (Q : ℕ → V → Type 0) (F : Ballot → Type 0) (log : LogState V) (s : ℕ) (m : PaxMsg V)
    → s < 2 * u + 1 → IsLogIn Q F log → IsMessageIn Q F m → IsTurnIn u Q F (on_msg u log s m)
msg_in u Q F log s (Prepare b p) l k n = prepare_in u Q F log s b p l k n.0 n.1
msg_in u Q F log s (Promise b p a) l k n = promise_in u Q F log log.leader s b p a k k.leader n.1.1
msg_in u Q F log s (Accept b p v) l k n = accept_in u Q F log s b p v l k n.0 n.1.0 n.1.1
msg_in u Q F log s (Accepted b p v) l k n = accepted_in u Q F log s b p v k n.1.0 n.1.1
msg_in u Q F log s (Ask p) l k n = ask_in u Q F log s p l k
msg_in u Q F log s (Learn p v) l k n = learn_in u Q F log s p v l k n.0 n.1
msg_in u Q F log s (Behind p) l k n = ask_in u Q F log s p l k

pub lead_in : {V : Type 0} (u : ℕ) (Q : ℕ → V → Type 0) (F : Ballot → Type 0) (x : ℕ) (log : LogState V) → MayRaise F x
    → IsLogIn Q F log → IsTurnIn u Q F (lead u x log)
lead_in u Q F x log r k = cond_both (log.promised.counter == last_counter) _ _ (IsTurnIn u Q F)
    (λ e. idle_in u Q F log BallotSpent k) (λ e. begins (r log.promised k.promised (eqb-false _ _ e)))
  where
    begins : F (next_ballot x log) → IsTurnIn u Q F (leads u x log)
    begins f = record {
      state = record { promised = inr f; within = k.within; accepted = k.accepted; learned = k.learned; leader = record { ballot = f; best = k.accepted } };
      facts = (f, tt);
      sends = to_all_in u Q F (is x) (Prepare (next_ballot x log) (open_at log)) (f, k.within);
    }

-- a reported value or an own one
offered_in : {V : Type 0} (Q : ℕ → V → Type 0) (F : Ballot → Type 0) (l : Leader V) (p : ℕ) (own : Option V)
    → IsLeaderIn Q F l → IsOwnIn Q p own → IsOwnIn Q p (to_offer p l own)
offered_in {V} Q F l p own k q = cond_both (p == l.led_at) _ _ (IsOwnIn Q p)
    (λ e. reported l.best (subst (λ z. IsVoteIn Q F z l.best) (sym (eqb-true p l.led_at e)) k.best)) (λ e. q)
  where
    reported : (best : Option (Ballot × V)) → IsVoteIn Q F p best → IsOwnIn Q p (value_or best own)
    reported None b = q
    reported (Some a) b = b.1.1

offers_in : {V : Type 0} (u : ℕ) (Q : ℕ → V → Type 0) (F : Ballot → Type 0) (x : ℕ) (log : LogState V) (l : Leader V)
    (o : Option V) → IsLogIn Q F log → IsLeaderIn Q F l → open_at log < POSITIONS → IsOwnIn Q (open_at log) o
    → IsTurnIn u Q F (offers u x log l o)
offers_in u Q F x log l None k n w q = stays_in u Q F log k
offers_in u Q F x log l (Some v) k n w q = record {
  state = record {
    promised = k.promised;
    within = k.within;
    accepted = (w, (n.ballot, q));
    learned = k.learned;
    leader = record { ballot = n.ballot; best = n.best };
  };
  facts = ((w, (n.ballot, q)), tt);
  sends = every-append (IsSendIn u Q F) (to_each (2 * u + 1) (is x) (Accept l.ballot (open_at log) v))
      (to_each (2 * u + 1) nobody (Accepted l.ballot (open_at log) v))
      (to_all_in u Q F (is x) (Accept l.ballot (open_at log) v) (n.ballot, (w, q)))
      (to_all_in u Q F nobody (Accepted l.ballot (open_at log) v) (n.ballot, (w, q)));
}

offer_as_in : {V : Type 0} (u : ℕ) (Q : ℕ → V → Type 0) (F : Ballot → Type 0) (x : ℕ) (log : LogState V)
    (o : Option (Leader V)) (own : Option V) → IsLogIn Q F log → IfSome o (IsLeaderIn Q F) → IsOwnIn Q (open_at log) own
    → IsTurnIn u Q F (offer_as u x log o own)
offer_as_in u Q F x log None own k n q = stays_in u Q F log k
offer_as_in u Q F x log (Some l) own k n q = cond_both (nat_le (promised_by u l) u) _ _ (IsTurnIn u Q F) (λ e. stays_in u Q F log k)
    (λ e. cond_both (open_at log == POSITIONS) _ _ (IsTurnIn u Q F) (λ g. stays_in u Q F log k)
    (λ g. cond_both (is_at l.last (open_at log)) _ _ (IsTurnIn u Q F) (λ h. stays_in u Q F log k)
    (λ h. offers_in u Q F x log l (to_offer (open_at log) l own) k n (below g k.within) (offered_in Q F l (open_at log) own n q))))
  where
    below : (open_at log == POSITIONS) ≡ false → open_at log ≤ POSITIONS → open_at log < POSITIONS
    below g w = let d : open_at log ≡ POSITIONS → ⊥ = eqb-false (open_at log) POSITIONS g in omega arith

pub offer_in : {V : Type 0} (u : ℕ) (Q : ℕ → V → Type 0) (F : Ballot → Type 0) (x : ℕ) (log : LogState V)
    (own : Option V) → IsLogIn Q F log → IsOwnIn Q (open_at log) own → IsTurnIn u Q F (offer u x log own)
offer_in u Q F x log own k q = offer_as_in u Q F x log log.leader own k k.leader q
