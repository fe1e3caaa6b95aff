-- What a turn of a node's log writes and sends can be written and sent. It writes at most one fact.
use Rattle.std.proofs.Common.{◌≡◌, ℕ, ◌+◌, ◌*◌, ◌<◌, ◌≤◌, Bool, true, false, cond, List, [], ◌∷◌, length, map, sym, ap}
use Rattle.std.proofs.Common.{◌∙◌, subst, inl, inr, arith, Option, Some, None}
use Rattle.std.specs.Prelude.{slice_get, nat_lt, nat_le, ◌==◌}
use Rattle.std.specs.List.{AllByRecursion}
use Rattle.std.proofs.lemmas.List.{length-map}
use Rattle.aeg_base.specs.declared.limits.TheConstants.{POSITIONS}
use Rattle.aeg_base.specs.declared.names.Ballot.{Ballot}
use Rattle.aeg_base.specs.declared.names.Tier.{Tier}
use Rattle.log_model.specs.declared.fact.Fact.{Fact}
use Rattle.log_model.specs.declared.fact.Fact.TheVariants.{Promised, Accepted as Voted, Learned}
use Rattle.log_model.specs.declared.message.PaxMsg.{PaxMsg}
use Rattle.log_model.specs.declared.message.PaxMsg.TheVariants.{Prepare, Promise, Accept, Accepted, Ask, Learn, Behind}
use Rattle.log_model.specs.declared.turn.LogTurn.{LogTurn}
use Rattle.log_model.specs.declared.turn.LogIdle.{LogIdle}
use Rattle.log_model.specs.declared.turn.LogIdle.TheVariants.{BallotSpent, Stale, Behind as IsBehind, Nothing}
use Rattle.log_model.specs.Log.{Leader, LogState, Turn, told, open_at, idles, stays, says, seen_at, count_below, is_at, is_from, with_ballot}
use Rattle.log_model.specs.Rows.{tells, leads, lead, promises, joins, on_prepare, on_promise, promised_by, to_offer}
use Rattle.log_model.specs.Rows.{offers, offer_as, offer, accepts, says_again, on_accept, learned_turn, notes}
use Rattle.log_model.specs.Rows.{on_accepted, on_learn, on_ask, on_msg}
use Rattle.log_model.specs.Ranges.{IsFactIn, IsLogIn, IsMessageIn, IsSendIn, IsOwnIn, MayRaise}
use Rattle.log_model.proofs.Ranged.{msg_in, lead_in, offer_in}
use Rattle.log_values.specs.declared.any_value.AnyValue.{AnyValue}
use Rattle.log_values.specs.declared.fact.Fact.{Fact as Written}
use Rattle.log_values.specs.Fields.{FitsBallot}
use Rattle.log_values.specs.Records.{FitsFact}
use Rattle.fact_journal.proofs.Lengths.{few_short}
use Rattle.frames.specs.LogMessages.{IsCarried, FitsLog}
use Rattle.paxos_log.specs.TierLog.{HasPlace, NodeLog, with_state}
use Rattle.tier_model.specs.Moves.{as_fact}
use Rattle.node_log.specs.LogNodes.{IsLogTurn, IsOwnLog}
use Rattle.node_log.specs.Settling.{CanRecord}

-- MESSAGES

pub received : (t : Tier) (m : PaxMsg AnyValue) → FitsLog t m → IsMessageIn (IsCarried t) FitsBallot m
received t (Prepare b p) k = k
received t (Promise b p None) k = k
received t (Promise b p (Some a)) k = k
received t (Accept b p v) k = k
received t (Accepted b p v) k = k
received t (Ask p) k = k
received t (Learn p v) k = k
received t (Behind p) k = k

pub placed : (t : Tier) (m : PaxMsg AnyValue) → FitsLog t m → HasPlace m
placed t (Prepare b p) k = tt
placed t (Promise b p a) k = tt
placed t (Accept b p v) k = k.1.0
placed t (Accepted b p v) k = k.1.0
placed t (Ask p) k = tt
placed t (Learn p v) k = k.0
placed t (Behind p) k = tt

message_fits : (t : Tier) (m : PaxMsg AnyValue) → IsMessageIn (IsCarried t) FitsBallot m → FitsLog t m
message_fits t (Prepare b p) k = k
message_fits t (Promise b p None) k = k
message_fits t (Promise b p (Some a)) k = k
message_fits t (Accept b p v) k = k
message_fits t (Accepted b p v) k = k
message_fits t (Ask p) k = k
message_fits t (Learn p v) k = k
message_fits t (Behind p) k = k

sends_fit : (u : ℕ) (t : Tier) (sends : List (ℕ × PaxMsg AnyValue)) → AllByRecursion (IsSendIn u (IsCarried t) FitsBallot) sends
    → AllByRecursion {X = ℕ × PaxMsg AnyValue} (λ send. FitsLog t send.1) sends
sends_fit u t [] k = tt
sends_fit u t (s ∷ ss) k = (message_fits t s.1 k.0.1, sends_fit u t ss k.1)

pub turn_sends : (u : ℕ) (t : Tier) (turn : Turn AnyValue) → IsLogTurn u t turn → AllByRecursion {X = ℕ × PaxMsg AnyValue} (λ send. FitsLog t send.1) turn.sends
turn_sends u t turn k = sends_fit u t turn.sends k.range.sends

-- FACTS

fact_fits : (t : Tier) (f : Fact AnyValue) → IsFactIn (IsCarried t) FitsBallot f → FitsFact (as_fact f)
fact_fits t (Promised b) k = k
fact_fits t (Voted p b v) k = (k.0, (k.1.0, k.1.1.0))
fact_fits t (Learned p v) k = (k.0, k.1.0)

facts_fit : (t : Tier) (fs : List (Fact AnyValue)) → AllByRecursion (IsFactIn (IsCarried t) FitsBallot) fs → AllByRecursion FitsFact (map as_fact fs)
facts_fit t [] k = tt
facts_fit t (f ∷ fs) k = (fact_fits t f k.0, facts_fit t fs k.1)

pub turn_recorded : (u : ℕ) (t : Tier) (turn : Turn AnyValue) → IsLogTurn u t turn → CanRecord (map as_fact turn.facts)
turn_recorded u t turn k =
    let fit = facts_fit t turn.facts k.range.facts in
    record { fit = fit; short = few_short (map as_fact turn.facts) fit (omega (arith, length-map turn.facts as_fact, k.few)) }

-- AT MOST ONE FACT

record IsFew {V : Type 0} (turn : Turn V) : Type 0 where
  pub most : length turn.facts ≤ 1

module _ {V : Type 0} where
  either : (b : Bool) (x y : Turn V) → IsFew x → IsFew y → IsFew (cond b x y)
  either true x y k l = k
  either false x y k l = l

  idle_few : (log : LogState V) (why : LogIdle) → IsFew (idles log why)
  idle_few log why = record { most = omega arith }

  stay_few : (log : LogState V) → IsFew (stays log)
  stay_few log = record { most = omega arith }

  says_few : (log : LogState V) (sends : List (ℕ × PaxMsg V)) → IsFew (says log sends)
  says_few log sends = record { most = omega arith }

  ask_few : (log : LogState V) (s p : ℕ) → IsFew (on_ask log s p)
  ask_few log s p = either _ _ _ (says_few log (tells s p (slice_get log.learned p))) (idle_few log Nothing)

  promises_few : (log : LogState V) (s : ℕ) (b : Ballot) (p : ℕ) → IsFew (promises log s b p)
  promises_few log s b p = record { most = omega arith }

  prepare_few : (log : LogState V) (s : ℕ) (b : Ballot) (p : ℕ) → IsFew (on_prepare log s b p)
  prepare_few log s b p = either _ _ _ (says_few log (tells s p (slice_get log.learned p)))
      (either _ _ _ (idle_few log (Stale log.promised)) (promises_few log s b p))

  joins_few : (log : LogState V) (l : Leader V) (s p : ℕ) (a : Option (Ballot × V)) → IsFew (joins log l s p a)
  joins_few log l s p a = record { most = omega arith }

  promise_few : (log : LogState V) (o : Option (Leader V)) (s : ℕ) (b : Ballot) (p : ℕ) (a : Option (Ballot × V)) → IsFew (on_promise log o s b p a)
  promise_few log None s b p a = idle_few log Nothing
  promise_few log (Some l) s b p a = either _ (joins log l s p a) (idles log Nothing) (joins_few log l s p a) (idle_few log Nothing)

  accepts_few : (u : ℕ) (log : LogState V) (b : Ballot) (p : ℕ) (v : V) → IsFew (accepts u log b p v)
  accepts_few u log b p v = record { most = omega arith }

  accept_few : (u : ℕ) (log : LogState V) (s : ℕ) (b : Ballot) (p : ℕ) (v : V) → IsFew (on_accept u log s b p v)
  accept_few u log s b p v =
      either _ _ _ (says_few log (tells s p (slice_get log.learned p)))
      (either _ _ _ (says_few log ((s, Behind (open_at log)) ∷ [])) (either _ _ _ (idle_few log (Stale log.promised))
      (either _ _ _ (says_few log (says_again u b p log.accepted)) (accepts_few u log b p v))))

  learned_few : (log : LogState V) (p : ℕ) (v : V) (sends : List (ℕ × PaxMsg V)) → IsFew (learned_turn log p v sends)
  learned_few log p v sends = record { most = omega arith }

  notes_few : (log : LogState V) (s : ℕ) (b : Ballot) → IsFew (notes log s b)
  notes_few log s b = record { most = omega arith }

  accepted_few : (u : ℕ) (log : LogState V) (s : ℕ) (b : Ballot) (p : ℕ) (v : V) → IsFew (on_accepted u log s b p v)
  accepted_few u log s b p v =
      either _ _ _ (idle_few log Nothing)
      (either _ _ _ (idle_few log (IsBehind (open_at log))) (either (is_from b (seen_at log.seen s)) _ _ (idle_few log Nothing)
      (either (nat_lt u (count_below (2 * u + 1) (with_ballot log.seen s b))) _ _ (learned_few log p v []) (notes_few log s b))))

  learn_few : (log : LogState V) (s p : ℕ) (v : V) → IsFew (on_learn log s p v)
  learn_few log s p v = either _ _ _ (idle_few log Nothing) (either _ _ _ (idle_few log (IsBehind (open_at log))) (learned_few log p v ((s, Ask (p + 1)) ∷ [])))

  msg_few : (u : ℕ) (log : LogState V) (s : ℕ) (m : PaxMsg V) → IsFew (on_msg u log s m)
  msg_few u log s (Prepare b p) = prepare_few log s b p
  msg_few u log s (Promise b p a) = promise_few log log.leader s b p a
  msg_few u log s (Accept b p v) = accept_few u log s b p v
  msg_few u log s (Accepted b p v) = accepted_few u log s b p v
  msg_few u log s (Ask p) = ask_few log s p
  msg_few u log s (Learn p v) = learn_few log s p v
  msg_few u log s (Behind p) = ask_few log s p

  leads_few : (u x : ℕ) (log : LogState V) → IsFew (leads u x log)
  leads_few u x log = record { most = omega arith }

  lead_few : (u x : ℕ) (log : LogState V) → IsFew (lead u x log)
  lead_few u x log = either _ _ _ (idle_few log BallotSpent) (leads_few u x log)

  offers_few : (u x : ℕ) (log : LogState V) (l : Leader V) (o : Option V) → IsFew (offers u x log l o)
  offers_few u x log l None = stay_few log
  offers_few u x log l (Some v) = record { most = omega arith }

  offer_as_few : (u x : ℕ) (log : LogState V) (o : Option (Leader V)) (own : Option V) → IsFew (offer_as u x log o own)
  offer_as_few u x log None own = stay_few log
  offer_as_few u x log (Some l) own = either (nat_le (promised_by u l) u) _ _ (stay_few log)
      (either (open_at log == POSITIONS) _ _ (stay_few log)
      (either (is_at l.last (open_at log)) _ _ (stay_few log) (offers_few u x log l (to_offer (open_at log) l own))))

-- TURNS

-- a node's ballot has its index
may_raise : (x : ℕ) → x ≤ 4 → MayRaise FitsBallot x
may_raise x l b (inl e) n = record { low = omega arith; high = let c = ap (λ (z : Ballot). z.counter) e in omega arith; node = l }
may_raise x l b (inr f) n = record { low = omega arith; high = let c = f.high in omega arith; node = l }

pub message_turn : (u : ℕ) (t : Tier) (s : ℕ) (log : LogState AnyValue) (m : PaxMsg AnyValue) → s < 2 * u + 1 → IsLogIn (IsCarried t) FitsBallot log
    → FitsLog t m → IsLogTurn u t (on_msg u log s m)
message_turn u t s log m below k fits = record { range = msg_in u (IsCarried t) FitsBallot log s m below k (received t m fits); few = (msg_few u log s m).most }

pub lead_turn : (u : ℕ) (t : Tier) (x : ℕ) (log : LogState AnyValue) → x ≤ 4 → IsLogIn (IsCarried t) FitsBallot log → IsLogTurn u t (lead u x log)
lead_turn u t x log low k = record { range = lead_in u (IsCarried t) FitsBallot x log (may_raise x low) k; few = (lead_few u x log).most }

pub offer_turn : (u : ℕ) (t : Tier) (x : ℕ) (log : LogState AnyValue) (own : Option AnyValue) → IsLogIn (IsCarried t) FitsBallot log
    → IsOwnIn (IsCarried t) (open_at log) own → IsLogTurn u t (offer u x log own)
offer_turn u t x log own k q = record { range = offer_in u (IsCarried t) FitsBallot x log own k q; few = (offer_as_few u x log log.leader own).most }

-- WHAT A CALL OF THE LOG TOLD

-- its messages have frames
pub told_sends : (u : ℕ) (t : Tier) (turn : Turn AnyValue) (out : LogTurn AnyValue) → out ≡ told turn → IsLogTurn u t turn
    → AllByRecursion {X = ℕ × PaxMsg AnyValue} (λ send. FitsLog t send.1) out.sends
told_sends u t turn out e k = subst (λ (z : LogTurn AnyValue). AllByRecursion {X = ℕ × PaxMsg AnyValue} (λ send. FitsLog t send.1) z.sends) (sym e)
    (turn_sends u t turn k)

-- its facts can be written down
pub told_recorded : (u : ℕ) (t : Tier) (turn : Turn AnyValue) (out : LogTurn AnyValue) (facts : List Written) → out ≡ told turn
    → facts ≡ map as_fact out.facts → IsLogTurn u t turn → CanRecord facts
told_recorded u t turn out facts e f k = subst CanRecord (sym (f ∙ ap (λ (z : LogTurn AnyValue). map as_fact z.facts) e)) (turn_recorded u t turn k)

-- and the log that it leaves is the node's own
pub own_after : (u : ℕ) (t : Tier) (x : ℕ) (log : NodeLog AnyValue) (turn : Turn AnyValue) → IsOwnLog u t x log → IsLogTurn u t turn
    → IsOwnLog u t x (with_state log turn.state)
own_after u t x log turn own k = record { faults = own.faults; me = own.me; range = k.range.state }
