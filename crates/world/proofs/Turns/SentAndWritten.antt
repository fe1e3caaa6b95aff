-- What a turn of a log in range writes down and sends: its facts fit, its packets are frames, and they reach nodes.
use Rattle.std.proofs.Common.{◌≡◌, ℕ, ◌+◌, ◌*◌, ◌<◌, ◌≤◌, true, List, [], ◌∷◌, map, refl, ap, subst, inl, inr, arith, Some, None, zero, suc}
use Rattle.std.specs.Prelude.{slice_get}
use Rattle.std.specs.List.{AllByRecursion}
use Rattle.std.proofs.lemmas.Bool.{lt-ltb}
use Rattle.aeg_base.specs.declared.names.Ballot.{Ballot}
use Rattle.aeg_base.specs.declared.names.Tier.{Tier}
use Rattle.aeg_base.specs.declared.names.Tier.TheVariants.{Mid as InMid, Inv, Pay}
use Rattle.log_model.specs.declared.fact.Fact.{Fact as LogFact}
use Rattle.log_model.specs.declared.fact.Fact.TheVariants as logs
use Rattle.log_model.specs.declared.message.PaxMsg.{PaxMsg}
use Rattle.log_model.specs.declared.message.PaxMsg.TheVariants.{Prepare, Promise, Accept, Accepted, Ask, Learn, Behind}
use Rattle.log_model.specs.Ranges.{IsFactIn, IsSendIn, MayRaise}
use Rattle.log_values.specs.declared.any_value.AnyValue.{AnyValue}
use Rattle.log_values.specs.declared.any_value.AnyValue.TheVariants as values
use Rattle.log_values.specs.declared.mid_value.MidValue.TheVariants.{Batch, Verdict as Decided}
use Rattle.log_values.specs.Fields.{FitsBallot}
use Rattle.log_values.specs.Records.{FitsFact}
use Rattle.frames.specs.declared.message.Msg.TheVariants as msgs
use Rattle.frames.specs.Headers.{is_sent_by_tier}
use Rattle.frames.specs.LogMessages.{IsCarried, FitsLog, log_kind}
use Rattle.frames.specs.Frames.{FitsFrame}
use Rattle.tier_model.specs.Moves.{node, is_node_of, Packet, log_packet, log_packets, as_fact}
use Rattle.world.specs.Parts.{CanStand, IsLogMessage, Reaches}

-- VALUES AND MESSAGES

pub stand_carried : (t : Tier) (p : ℕ) (v : AnyValue) → CanStand t p v → IsCarried t p v
stand_carried InMid p (values.Mid (Batch es)) k = k
stand_carried InMid p (values.Mid (Decided v)) k = absurd k
stand_carried InMid p (values.Back v) k = absurd k
stand_carried Inv p v k = absurd k
stand_carried Pay p v k = absurd k

pub message_fits : (t : Tier) (m : PaxMsg AnyValue) → IsLogMessage t m → FitsLog t m
message_fits t (Prepare b p) k = k
message_fits t (Promise b p None) k = (k.0, (k.1.0, tt))
message_fits t (Promise b p (Some a)) k = (k.0, (k.1.0, (k.1.1.0, (k.1.1.1.0, stand_carried t p a.1 k.1.1.1.1))))
message_fits t (Accept b p v) k = (k.0, (k.1.0, stand_carried t p v k.1.1))
message_fits t (Accepted b p v) k = (k.0, (k.1.0, stand_carried t p v k.1.1))
message_fits t (Ask p) k = k
message_fits t (Learn p v) k = (k.0, stand_carried t p v k.1)
message_fits t (Behind p) k = k

fact_fits : (t : Tier) (f : LogFact AnyValue) → IsFactIn (CanStand t) FitsBallot f → FitsFact (as_fact f)
fact_fits t (logs.Promised b) k = k
fact_fits t (logs.Accepted p b v) k = (k.0, (k.1.0, (stand_carried t p v k.1.1).0))
fact_fits t (logs.Learned p v) k = (k.0, (stand_carried t p v k.1).0)

pub facts_fit : (t : Tier) (fs : List (LogFact AnyValue)) → AllByRecursion (IsFactIn (CanStand t) FitsBallot) fs → AllByRecursion FitsFact (map as_fact fs)
facts_fit t [] k = tt
facts_fit t (f ∷ fs) k = (fact_fits t f k.0, facts_fit t fs k.1)

pub sends_fit : (u : ℕ) (t : Tier) (sends : List (ℕ × PaxMsg AnyValue))
    → AllByRecursion (IsSendIn u (CanStand t) FitsBallot) sends
    → AllByRecursion {X = ℕ × PaxMsg AnyValue} (λ send. FitsLog t send.1) sends
sends_fit u t [] k = tt
sends_fit u t (s ∷ ss) k = (message_fits t s.1 k.0.1, sends_fit u t ss k.1)

-- PACKETS

-- the backends send the same kinds
sent_by : (kind : ℕ) → is_sent_by_tier InMid kind ≡ true → is_sent_by_tier Inv kind ≡ true → (t : Tier) → is_sent_by_tier t kind ≡ true
sent_by kind mid back InMid = mid
sent_by kind mid back Inv = back
sent_by kind mid back Pay = back

sent_log : (t : Tier) (m : PaxMsg AnyValue) → is_sent_by_tier t (log_kind m) ≡ true
sent_log t (Prepare b p) = sent_by (log_kind (Prepare b p)) refl refl t
sent_log t (Promise b p a) = sent_by (log_kind (Promise b p a)) refl refl t
sent_log t (Accept b p v) = sent_by (log_kind (Accept b p v)) refl refl t
sent_log t (Accepted b p v) = sent_by (log_kind (Accepted b p v)) refl refl t
sent_log t (Ask p) = sent_by (log_kind (Ask p)) refl refl t
sent_log t (Learn p v) = sent_by (log_kind (Learn p v)) refl refl t
sent_log t (Behind p) = sent_by (log_kind (Behind p)) refl refl t

packet_fits : (t : Tier) (x : ℕ) (m : PaxMsg AnyValue) → x ≤ 4 → FitsLog t m → FitsFrame (node t x) (msgs.Log m)
packet_fits t x m l k = record { sender = l; sent = sent_log t m; message = k }

pub are_fit : (t : Tier) (x : ℕ) (sends : List (ℕ × PaxMsg AnyValue)) → x ≤ 4
    → AllByRecursion {X = ℕ × PaxMsg AnyValue} (λ send. FitsLog t send.1) sends → (i : ℕ) (k : Packet)
    → slice_get (log_packets t x sends) i ≡ Some k → FitsFrame k.from k.message
are_fit t x [] l f i k e = absurd (cc)
are_fit t x (s ∷ ss) l f zero k e = let same : log_packet t x s ≡ k = cc in subst (λ (z : Packet). FitsFrame z.from z.message) same (packet_fits t x s.1 l f.0)
are_fit t x (s ∷ ss) l f (suc i) k e = are_fit t x ss l f.1 i k e

pub peer_is : (u : ℕ) (t : Tier) (x : ℕ) → x < 2 * u + 1 → is_node_of u t (node t x) ≡ true
peer_is u InMid x l = lt-ltb x (2 * u + 1) l
peer_is u Inv x l = lt-ltb x (2 * u + 1) l
peer_is u Pay x l = lt-ltb x (2 * u + 1) l

pub all_reach : (u : ℕ) (t : Tier) (x : ℕ) (sends : List (ℕ × PaxMsg AnyValue)) → x < 2 * u + 1
    → AllByRecursion (IsSendIn u (CanStand t) FitsBallot) sends → (i : ℕ) (k : Packet)
    → slice_get (log_packets t x sends) i ≡ Some k → Reaches u k.from k.to k.message
all_reach u t x [] l f i k e = absurd (cc)
all_reach u t x (s ∷ ss) l f zero k e = let same : log_packet t x s
    ≡ k = cc in subst (λ (z : Packet). Reaches u z.from z.to z.message) same (f.0.0, (peer_is u t x l, f.0.1))
all_reach u t x (s ∷ ss) l f (suc i) k e = all_reach u t x ss l f.1 i k e

-- BALLOTS

pub may_raise : (x : ℕ) → x ≤ 4 → MayRaise FitsBallot x
may_raise x l b (inl e) n = record { low = omega arith; high = let c = ap (λ (z : Ballot). z.counter) e in omega arith; node = l }
may_raise x l b (inr f) n = record { low = omega arith; high = let c = f.high in omega arith; node = l }
