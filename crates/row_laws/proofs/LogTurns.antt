-- A turn of a node's log, from a log in range: its packets are taken and have frames, and its facts fit.
use Rattle.std.proofs.Common.{◌≡◌, ℕ, ◌+◌, ◌*◌, ◌<◌, ◌≤◌, Bool, true, false, cond, List, [], ◌∷◌, ◌++◌, length, map, refl, ap, inl, inr, arith}
use Rattle.std.proofs.Common.{Option, Some, None}
use Rattle.std.specs.Prelude.{nat_lt}
use Rattle.std.proofs.lemmas.Bool.{and_parts, eq-eqb, lt-ltb, ltb-true}
use Rattle.std.proofs.lemmas.List.{length-map}
use Rattle.aeg_base.specs.declared.names.Ballot.{Ballot}
use Rattle.aeg_base.specs.declared.names.End.{End}
use Rattle.aeg_base.specs.declared.names.End.TheVariants.{Node, Client}
use Rattle.aeg_base.specs.declared.names.Tier.{Tier}
use Rattle.aeg_base.specs.declared.names.Tier.TheVariants.{Mid as InMid, Inv, Pay}
use Rattle.server_model.specs.Server.{same_tier}
use Rattle.server_model.proofs.Tiers.{tier_eq}
use Rattle.log_model.specs.declared.fact.Fact.{Fact as LogFact}
use Rattle.log_model.specs.declared.fact.Fact.TheVariants as logs
use Rattle.log_model.specs.declared.message.PaxMsg.{PaxMsg}
use Rattle.log_model.specs.declared.message.PaxMsg.TheVariants.{Prepare, Promise, Accept, Accepted, Ask, Learn, Behind}
use Rattle.log_model.specs.declared.turn.LogIdle.{LogIdle}
use Rattle.log_model.specs.Log.{LogState, Turn, open_at, is}
use Rattle.log_model.specs.Rows.{on_msg}
use Rattle.log_model.specs.Ranges.{IsMessageIn, IsFactIn, IsSendIn, IsLogIn, IsTurnIn, MayRaise}
use Rattle.log_model.proofs.Basics.{Every, every-append}
use Rattle.log_values.specs.declared.any_value.AnyValue.{AnyValue}
use Rattle.log_values.specs.Fields.{FitsBallot}
use Rattle.frames.specs.declared.message.Msg.TheVariants as msgs
use Rattle.frames.specs.Headers.{is_sent_by_tier}
use Rattle.frames.specs.LogMessages.{IsCarried, FitsLog, log_kind}
use Rattle.paxos_log.specs.TierLog.{AreInOrder}
use Rattle.fact_journal.specs.Fitting.{FactsFit, open_after_all}
use Rattle.fact_journal.proofs.Restoring.{from_log}
use Rattle.round_model.specs.Lists.{each}
use Rattle.round_model.specs.Service.{Service}
use Rattle.tier_model.specs.Moves.{node, is_node_of, Packet, Move, log_packet, log_packets, asks, as_fact, log_answer}
use Rattle.tier_model.specs.Kinds.{kind}
use Rattle.row_laws.specs.Moves.{is_dropped, Takes, IsTaken, IsSealable}
use Rattle.row_laws.proofs.Lists.{each_in, each_less}
use Rattle.row_laws.proofs.FewMessages.{IsFew, IsWritten}

-- WHO SENT IT

-- a node of the tier is one, with an index below 2u+1
pub sender_is : (u : ℕ) (t : Tier) (from : End) → is_node_of u t from ≡ true → (y : ℕ) × (y < 2 * u + 1) × (from ≡ node t y)
sender_is u t (Client c) e = absurd (cc)
sender_is u t (Node n) e =
    let p = and_parts (same_tier n.tier t) (nat_lt n.index (2 * u + 1)) e in
    (n.index, ltb-true n.index (2 * u + 1) p.1, ap (λ z. Node (record { tier = z; index = n.index })) (tier_eq n.tier t p.0))

pub peer_is : (u : ℕ) (t : Tier) (x : ℕ) → x < 2 * u + 1 → is_node_of u t (node t x) ≡ true
peer_is u InMid x l = lt-ltb x (2 * u + 1) l
peer_is u Inv x l = lt-ltb x (2 * u + 1) l
peer_is u Pay x l = lt-ltb x (2 * u + 1) l

-- ROWS THAT DROP NOTHING

pub taken_if : {S : Type 0} (b : Bool) (a d : Move S) → b ≡ true → is_dropped a.answer ≡ false → is_dropped (cond b a d).answer ≡ false
taken_if true a d e k = k
taken_if false a d e k = absurd (cc)

pub taken_either : {S : Type 0} (b : Bool) (a d : Move S) → is_dropped a.answer ≡ false → is_dropped d.answer ≡ false → is_dropped (cond b a d).answer ≡ false
taken_either true a d k l = k
taken_either false a d k l = l

log_answers : (o : Option LogIdle) → is_dropped (log_answer o) ≡ false
log_answers None = refl
log_answers (Some idle) = refl

pub log_taken : {B : Type 0} (s : Service B) (u depth : ℕ) (t : Tier) (x y : ℕ) (p : PaxMsg AnyValue) → x < 2 * u + 1 → y < 2 * u + 1
    → Takes s u depth (node t y) (node t x) (msgs.Log p)
log_taken s u depth InMid x y p l m = (m, λ σ. taken_if _ _ _ (lt-ltb x (2 * u + 1) l) (log_answers (on_msg u σ.log x p).idle))
log_taken s u depth Inv x y p l m = (m, λ σ. taken_if _ _ _ (lt-ltb x (2 * u + 1) l) (log_answers (on_msg u σ.log x p).idle))
log_taken s u depth Pay x y p l m = (m, λ σ. taken_if _ _ _ (lt-ltb x (2 * u + 1) l) (log_answers (on_msg u σ.log x p).idle))

-- MESSAGES

pub message_in : (t : Tier) (m : PaxMsg AnyValue) → FitsLog t m → IsMessageIn (IsCarried t) FitsBallot m
message_in t (Prepare b p) k = k
message_in t (Promise b p None) k = (k.0, (k.1.0, tt))
message_in t (Promise b p (Some a)) k = k
message_in t (Accept b p v) k = k
message_in t (Accepted b p v) k = k
message_in t (Ask p) k = k
message_in t (Learn p v) k = k
message_in t (Behind p) k = k

message_fits : (t : Tier) (m : PaxMsg AnyValue) → IsMessageIn (IsCarried t) FitsBallot m → FitsLog t m
message_fits t (Prepare b p) k = k
message_fits t (Promise b p None) k = (k.0, (k.1.0, tt))
message_fits t (Promise b p (Some a)) k = k
message_fits t (Accept b p v) k = k
message_fits t (Accepted b p v) k = k
message_fits t (Ask p) k = k
message_fits t (Learn p v) k = k
message_fits t (Behind p) k = k

-- each tier sends the kinds of its log
sent_by : (kind : ℕ) → is_sent_by_tier InMid kind ≡ true → is_sent_by_tier Inv kind ≡ true → (t : Tier) → is_sent_by_tier t kind ≡ true
sent_by kind mid back InMid = mid
sent_by kind mid back Inv = back
sent_by kind mid back Pay = back

sent_log : (t : Tier) (m : PaxMsg AnyValue) → is_sent_by_tier t (log_kind m) ≡ true
sent_log t (Prepare b p) = sent_by (log_kind (Prepare b p)) refl refl t
sent_log t (Promise b p a) = sent_by (log_kind (Promise b p a)) refl refl t
sent_log t (Accept b p v) = sent_by (log_kind (Accept b p v)) refl refl t
sent_log t (Accepted b p v) = sent_by (log_kind (Accepted b p v)) refl refl t
sent_log t (Ask p) = sent_by (log_kind (Ask p)) refl refl t
sent_log t (Learn p v) = sent_by (log_kind (Learn p v)) refl refl t
sent_log t (Behind p) = sent_by (log_kind (Behind p)) refl refl t

-- PACKETS

-- packets of the node x that are taken, and have frames
abbrev pub AreGood : {B : Type 0} → Service B → ℕ → ℕ → Tier → ℕ → List Packet → Type 0
AreGood s u depth t x ks = Every (IsTaken s u depth) ks × Every (IsSealable (node t x)) ks

pub none_good : {B : Type 0} (s : Service B) (u depth : ℕ) (t : Tier) (x : ℕ) → AreGood s u depth t x []
none_good s u depth t x = (tt, tt)

pub both_good : {B : Type 0} (s : Service B) (u depth : ℕ) (t : Tier) (x : ℕ) (ks js : List Packet) → AreGood s u depth t x ks → AreGood s u depth t x js
    → AreGood s u depth t x (ks ++ js)
both_good s u depth t x ks js a b = (every-append (IsTaken s u depth) ks js a.0 b.0, every-append (IsSealable (node t x)) ks js a.1 b.1)

pub each_good : {B : Type 0} (s : Service B) (u depth : ℕ) (t : Tier) (x n : ℕ) (skip : ℕ → Bool) (f : ℕ → Packet)
    → ((y : ℕ) → y < n → IsTaken s u depth (f y)) → ((y : ℕ) → y < n → IsSealable (node t x) (f y))
    → AreGood s u depth t x (each n skip f)
each_good s u depth t x n skip f k j = (each_in (IsTaken s u depth) n skip f k, each_in (IsSealable (node t x)) n skip f j)

pub log_good : {B : Type 0} (s : Service B) (u depth : ℕ) (t : Tier) (x : ℕ) (sends : List (ℕ × PaxMsg AnyValue)) → u ≤ 2 → x < 2 * u + 1
    → Every (IsSendIn u (IsCarried t) FitsBallot) sends → AreGood s u depth t x (log_packets t x sends)
log_good s u depth t x [] small l k = (tt, tt)
log_good s u depth t x (m ∷ ms) small l k =
    let rest = log_good s u depth t x ms small l k.1 in (
      (log_taken s u depth t x m.0 m.1 l k.0.0, rest.0),
      (
        record {
          own = refl;
          fits = record {
            sender = omega
                (arith, small, l);
            sent = sent_log t m.1;
            message = message_fits t m.1 k.0.1;
          };
        },
        rest.1,
      ),
    )

asks_sent : (t : Tier) (u x p : ℕ) → p ≤ 4096 → Every (IsSendIn u (IsCarried t) FitsBallot) (asks u x p)
asks_sent t u x p l = each_in (IsSendIn u (IsCarried t) FitsBallot) (2 * u + 1) (is x) (λ y. (y, Ask p)) (λ y k. (k, l))

pub asks_good : {B : Type 0} (s : Service B) (u depth : ℕ) (t : Tier) (x : ℕ) (log : LogState AnyValue) → u ≤ 2 → x < 2 * u + 1
    → IsLogIn (IsCarried t) FitsBallot log → AreGood s u depth t x (log_packets t x (asks u x (open_at log)))
asks_good s u depth t x log small l k = log_good s u depth t x (asks u x (open_at log)) small l (asks_sent t u x (open_at log) k.within)

pub asks_few : (u : ℕ) (t : Tier) (x p : ℕ) → x < 2 * u + 1 → length (log_packets t x (asks u x p)) ≤ 2 * u
asks_few u t x p l = omega (
  arith,
  length-map (asks u x p) (log_packet t x),
  each_less {A = ℕ × PaxMsg AnyValue} (2 * u + 1) (is x) (λ y. (y, Ask p)) x l (eq-eqb x x refl),
)

-- FACTS

written_in_order : (Q : ℕ → AnyValue → Type 0) (first next : ℕ) (fs : List (LogFact AnyValue)) → IsWritten first next fs → Every (IsFactIn Q FitsBallot) fs
    → AreInOrder first fs
written_in_order Q first next [] w k = tt
written_in_order Q first next (logs.Promised b ∷ []) w k = (tt, tt)
written_in_order Q first next (logs.Accepted p b v ∷ []) w k = (tt, tt)
written_in_order Q first next (logs.Learned p v ∷ []) w k = ((w.0, k.0.0), tt)
written_in_order Q first next (logs.Promised b ∷ g ∷ fs) w k = absurd w
written_in_order Q first next (logs.Accepted p b v ∷ g ∷ fs) w k = absurd w
written_in_order Q first next (logs.Learned p v ∷ g ∷ fs) w k = absurd w

-- the log is open then where the facts leave it
pub written_opens : (first next : ℕ) (fs : List (LogFact AnyValue)) → IsWritten first next fs → next ≡ open_after_all first (map as_fact fs)
written_opens first next [] w = w
written_opens first next (logs.Promised b ∷ []) w = w
written_opens first next (logs.Accepted p b v ∷ []) w = w
written_opens first next (logs.Learned p v ∷ []) w = w.1
written_opens first next (logs.Promised b ∷ g ∷ fs) w = absurd w
written_opens first next (logs.Accepted p b v ∷ g ∷ fs) w = absurd w
written_opens first next (logs.Learned p v ∷ g ∷ fs) w = absurd w

pub turn_facts : (u : ℕ) (t : Tier) (log : LogState AnyValue) (turn : Turn AnyValue) → IsFew u log turn → IsTurnIn u (IsCarried t) FitsBallot turn
    → FactsFit t (open_at log) (map as_fact turn.facts)
turn_facts u t log turn few k =
    from_log t (open_at log) turn.facts k.facts (written_in_order (IsCarried t) (open_at log) (open_at turn.state) turn.facts few.written k.facts)

-- BALLOTS

pub may_raise : (x : ℕ) → x ≤ 4 → MayRaise FitsBallot x
may_raise x l b (inl e) n = record { low = omega arith; high = let c = ap (λ (z : Ballot). z.counter) e in omega arith; node = l }
may_raise x l b (inr f) n = record { low = omega arith; high = let c = f.high in omega arith; node = l }
