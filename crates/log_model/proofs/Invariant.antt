-- What each event keeps: promises, votes and packets hang together. `h x` is what the node x has ever written, newest first, also after it is wiped.
use Rattle.std.proofs.Common.{◌≡◌, ℕ, ◌+◌, ◌*◌, ◌<◌, ◌≤◌, Bool, true, List, [], ◌∷◌, ◌++◌, length, ap, ◌∙◌, inl, inr, arith, Option, Some, None, suc}
use Rattle.std.specs.Prelude.{slice_get, ◌⊎◌, IfSome}
use Rattle.aeg_base.specs.declared.names.Ballot.{Ballot}
use Rattle.log_model.specs.declared.fact.Fact.{Fact}
use Rattle.log_model.specs.declared.message.PaxMsg.{PaxMsg}
use Rattle.log_model.specs.declared.message.PaxMsg.TheVariants.{Prepare, Promise, Accept, Accepted, Ask, Learn, Behind}
use Rattle.log_model.specs.Log.{Leader, LogState, Turn, has, seen_at, count_below, is_at, has_ballot}
use Rattle.log_model.specs.Recover.{onto, newest, promised_in, learned_in, accepted_in}
use Rattle.log_model.specs.World.{Packet, packets_of, Mode, LogNode, World}
use Rattle.log_model.specs.Nodes.Mode.{Up, Down, Gone}
use Rattle.log_model.specs.Chosen.{has_sent, Meets}
use Rattle.log_model.proofs.Ballots.{key, limit}
use Rattle.log_model.proofs.Basics.{Every, every-weaker}
use Rattle.log_model.proofs.History.{opening, DidVote, DidPromise, Orderly, Grew, grew-refl, grew-trans}
use Rattle.log_model.proofs.Soup.{meets-append, has_sent-append}

abbrev pub Hist : Type 0 → Type 0
Hist V = ℕ → List (Fact V)

-- More than half of the nodes vote at p below b no more, and below b their votes at p are below a bound.
-- The bound is just above a vote for v, or there is none.
pub record IsSafe {V : Type 0} (u : ℕ) (h : ℕ → List (Fact V)) (p : ℕ) (b : Ballot) (v : V) : Type 0 where
  pub quorum : ℕ → Bool
  pub many : u < count_below (2 * u + 1) quorum
  pub above : (a : ℕ) → a < 2 * u + 1 → quorum a ≡ true → key b ≤ key (promised_in (h a))
  pub bound : ℕ
  pub below : (a : ℕ) → a < 2 * u + 1 → quorum a ≡ true → (d : Ballot) (w : V) → DidVote (h a) p d w → key d < key b → key d < bound
  pub origin : (bound ≡ 0) ⊎ ((z : ℕ) × (d : Ballot) × (suc (key d) ≡ bound) × (key d < key b) × (z < 2 * u + 1) × DidVote (h z) p d v)

pub record VoteOk {V : Type 0} (u : ℕ) (h : ℕ → List (Fact V)) (p : ℕ) (b : Ballot) (v : V) : Type 0 where
  pub owner_in : b.node < 2 * u + 1
  pub owner : DidVote (h b.node) p b v
  pub safe : IsSafe u h p b v

-- who wrote F has promised b, and a is its last vote at p below b; it has none at higher positions
pub record IsReport {V : Type 0} (F : List (Fact V)) (b : Ballot) (p : ℕ) (a : Option (Ballot × V)) : Type 0 where
  pub top : key b ≤ key (promised_in F)
  pub votes : (q : ℕ) (d : Ballot) (w : V) → p ≤ q → DidVote F q d w → key d < key b → (q ≡ p) × (key d < limit a)

-- the reported a is a vote below b at p
abbrev pub IsBacked : {V : Type 0} → ℕ → (ℕ → List (Fact V)) → Ballot → ℕ → Option (Ballot × V) → Type 0
IsBacked u h b p None = Unit {0}
IsBacked u h b p (Some a) = (key a.0 < key b) × ((z : ℕ) × (z < 2 * u + 1) × DidVote (h z) p a.0 a.1)

pub record PromiseOk {V : Type 0} (u : ℕ) (h : ℕ → List (Fact V)) (from : ℕ) (b : Ballot) (p : ℕ) (a : Option (Ballot × V)) : Type 0 where
  pub owner_in : b.node < 2 * u + 1
  pub led : DidPromise (h b.node) b p
  pub report : IsReport (h from) b p a
  pub backed : IsBacked u h b p a

abbrev pub MsgOk : {V : Type 0} → ℕ → (ℕ → List (Fact V)) → List (Packet V) → ℕ → PaxMsg V → Type 0
MsgOk u h soup from (Prepare b p) = (b.node < 2 * u + 1) × DidPromise (h b.node) b p × (from ≡ b.node)
MsgOk u h soup from (Promise b p a) = PromiseOk u h from b p a
MsgOk u h soup from (Accept b p v) = (b.node < 2 * u + 1) × DidVote (h b.node) p b v × (from ≡ b.node)
MsgOk u h soup from (Accepted b p v) = (from < 2 * u + 1) × DidVote (h from) p b v
MsgOk u h soup from (Learn p v) = Meets u soup p v
MsgOk u h soup from (Ask p) = Unit {0}
MsgOk u h soup from (Behind p) = Unit {0}

abbrev pub PacketOk : {V : Type 0} → ℕ → (ℕ → List (Fact V)) → List (Packet V) → Packet V → Type 0
PacketOk u h soup k = MsgOk u h soup k.from k.msg

-- a message that from sends, with the node that it goes to
abbrev pub SendOk : {V : Type 0} → ℕ → (ℕ → List (Fact V)) → List (Packet V) → ℕ → ℕ × PaxMsg V → Type 0
SendOk u h soup from s = MsgOk u h soup from s.1

pub record LeaderOk {V : Type 0} (u : ℕ) (h : ℕ → List (Fact V)) (F : List (Fact V)) (x : ℕ) (log : LogState V) (l : Leader V) : Type 0 where
  pub is_promised : l.ballot ≡ log.promised
  pub mine : l.ballot.node ≡ x
  pub led : DidPromise F l.ballot l.led_at
  pub joined : (a : ℕ) → a < 2 * u + 1 → has l.promisers a ≡ true → IsReport (h a) l.ballot l.led_at l.best
  pub backed : IsBacked u h l.ballot l.led_at l.best
  -- what it accepted with its own ballot it has sent
  pub own : has_ballot l.ballot log.accepted ≡ true → is_at l.last (length log.learned) ≡ true

-- The state of x, which has written F
pub record StateOk {V : Type 0} (u : ℕ) (h : ℕ → List (Fact V)) (F : List (Fact V)) (soup : List (Packet V)) (x : ℕ) (log : LogState V) : Type 0 where
  pub promised : log.promised ≡ promised_in F
  pub accepted : log.accepted ≡ accepted_in (opening F) F
  pub learned : log.learned ≡ learned_in F
  pub seen : (y : ℕ) (b : Ballot) → seen_at log.seen y ≡ Some b → has_sent soup (length log.learned) b y ≡ true
  pub leader : IfSome log.leader (λ l. LeaderOk u h F x log l)

-- what a node's facts and packets say, whatever its mode
pub record History {V : Type 0} (u : ℕ) (h : ℕ → List (Fact V)) (soup : List (Packet V)) : Type 0 where
  pub orderly : (x : ℕ) → x < 2 * u + 1 → Orderly (h x)
  pub votes : (x : ℕ) → x < 2 * u + 1 → (p : ℕ) (b : Ballot) (v : V) → DidVote (h x) p b v → VoteOk u h p b v
  pub learned : (x : ℕ) → x < 2 * u + 1 → (p : ℕ) (v : V) → slice_get (learned_in (h x)) p ≡ Some v → Meets u soup p v
  pub packets : Every (PacketOk u h soup) soup

-- KEPT AS FACTS AND PACKETS ARE ADDED

pub record AllGrew {V : Type 0} (h g : ℕ → List (Fact V)) : Type 0 where
  pub at : (y : ℕ) → Grew (h y) (g y)

pub report-grew : {V : Type 0} (F G : List (Fact V)) (b : Ballot) (p : ℕ) (a : Option (Ballot × V)) → Grew F G → IsReport F b p a → IsReport G b p a
report-grew {V} F G b p a m r = record {
  top = omega (arith, m.top, r.top);
  votes = λ q d w le v lt. old q d w le lt (m.fresh q d w v);
}
  where
    old : (q : ℕ) (d : Ballot) (w : V) → p ≤ q → key d < key b → DidVote F q d w ⊎ (key (promised_in F) ≤ key d) → (q ≡ p) × (key d < limit a)
    old q d w le lt (inl v) = r.votes q d w le v lt
    old q d w le lt (inr up) = absurd (omega (arith, r.top, up, lt))

pub backed-grew : {V : Type 0} (u : ℕ) (h g : ℕ → List (Fact V)) (b : Ballot) (p : ℕ) (a : Option (Ballot × V))
    → AllGrew h g → IsBacked u h b p a → IsBacked u g b p a
backed-grew u h g b p None m k = tt
backed-grew u h g b p (Some a) m k = (k.0, (k.1.0, k.1.1, (m.at k.1.0).votes p a.0 a.1 k.1.2))

pub safe-grew : {V : Type 0} (u : ℕ) (h g : ℕ → List (Fact V)) (p : ℕ) (b : Ballot) (v : V) → AllGrew h g → IsSafe u h p b v → IsSafe u g p b v
safe-grew {V} u h g p b v m s = record {
  quorum = s.quorum;
  many = s.many;
  bound = s.bound;
  above = λ a lt q. omega (arith, s.above a lt q, (m.at a).top);
  below = λ a lt q d w t k. old a lt q d w k ((m.at a).fresh p d w t);
  origin = later s.origin;
}
  where
    old : (a : ℕ) → a < 2 * u + 1 → s.quorum a ≡ true → (d : Ballot) (w : V) → key d < key b → DidVote (h a) p d w
        ⊎ (key (promised_in (h a)) ≤ key d) → key d < s.bound
    old a lt q d w k (inl t) = s.below a lt q d w t k
    old a lt q d w k (inr up) = absurd (omega (arith, s.above a lt q, up, k))

    later : (s.bound ≡ 0) ⊎ ((z : ℕ) × (d : Ballot) × (suc (key d) ≡ s.bound) × (key d < key b) × (z < 2 * u + 1) × DidVote (h z) p d v)
        → (s.bound ≡ 0) ⊎ ((z : ℕ) × (d : Ballot) × (suc (key d) ≡ s.bound) × (key d < key b) × (z < 2 * u + 1) × DidVote (g z) p d v)
    later (inl e) = inl e
    later (inr o) = inr (o.0, o.1, o.2, o.3, o.4, (m.at o.0).votes p o.1 v o.5)

pub vote-grew : {V : Type 0} (u : ℕ) (h g : ℕ → List (Fact V)) (p : ℕ) (b : Ballot) (v : V) → AllGrew h g → VoteOk u h p b v → VoteOk u g p b v
vote-grew u h g p b v m k = record { owner_in = k.owner_in; owner = (m.at b.node).votes p b v k.owner; safe = safe-grew u h g p b v m k.safe }

pub record SoupGrew {V : Type 0} (u : ℕ) (xs ys : List (Packet V)) : Type 0 where
  pub meets : (p : ℕ) (v : V) → Meets u xs p v → Meets u ys p v
  pub sent : (p : ℕ) (b : Ballot) (x : ℕ) → has_sent xs p b x ≡ true → has_sent ys p b x ≡ true

pub soup-append : {V : Type 0} (u : ℕ) (xs ys : List (Packet V)) → SoupGrew u xs (xs ++ ys)
soup-append u xs ys = record { meets = λ p v m. meets-append u xs ys p v m; sent = λ p b x e. has_sent-append xs ys p b x e }

pub soup-refl : {V : Type 0} (u : ℕ) (xs : List (Packet V)) → SoupGrew u xs xs
soup-refl u xs = record { meets = λ p v m. m; sent = λ p b x e. e }

pub msg-grew : {V : Type 0} (u : ℕ) (h g : ℕ → List (Fact V)) (xs ys : List (Packet V)) (from : ℕ) (m : PaxMsg V)
    → AllGrew h g → SoupGrew u xs ys → MsgOk u h xs from m → MsgOk u g ys from m
msg-grew u h g xs ys from (Prepare b p) m s k = (k.0, (m.at b.node).promises b p k.1, k.2)
msg-grew u h g xs ys from (Promise b p a) m s k = record {
  owner_in = k.owner_in;
  led = (m.at b.node).promises b p k.led;
  report = report-grew (h from) (g from) b p a (m.at from) k.report;
  backed = backed-grew u h g b p a m k.backed;
}
msg-grew u h g xs ys from (Accept b p v) m s k = (k.0, (m.at b.node).votes p b v k.1, k.2)
msg-grew u h g xs ys from (Accepted b p v) m s k = (k.0, (m.at from).votes p b v k.1)
msg-grew u h g xs ys from (Learn p v) m s k = s.meets p v k
msg-grew u h g xs ys from (Ask p) m s k = tt
msg-grew u h g xs ys from (Behind p) m s k = tt

pub packets-grew : {V : Type 0} (u : ℕ) (h g : ℕ → List (Fact V)) (xs ys ks : List (Packet V)) → AllGrew h g
    → SoupGrew u xs ys → Every (PacketOk u h xs) ks → Every (PacketOk u g ys) ks
packets-grew u h g xs ys ks m s e = every-weaker (PacketOk u h xs) (PacketOk u g ys) (λ k o. msg-grew u h g xs ys k.from k.msg m s o) ks e

pub sends-grew : {V : Type 0} (u : ℕ) (h g : ℕ → List (Fact V)) (xs ys : List (Packet V)) (x : ℕ)
    (sends : List (ℕ × PaxMsg V)) → AllGrew h g → SoupGrew u xs ys → Every (SendOk u h xs x) sends → Every (SendOk u g ys x) sends
sends-grew u h g xs ys x sends m s e = every-weaker (SendOk u h xs x) (SendOk u g ys x) (λ k o. msg-grew u h g xs ys x k.1 m s o) sends e

-- the messages that x sends, as packets
pub posted : {V : Type 0} (u : ℕ) (h : ℕ → List (Fact V)) (soup : List (Packet V)) (x : ℕ) (sends : List (ℕ × PaxMsg V))
    → Every (SendOk u h soup x) sends → Every (PacketOk u h soup) (packets_of x sends)
posted u h soup x [] e = tt
posted u h soup x (s ∷ sends) e = (e.0, posted u h soup x sends e.1)

pub leader-grew : {V : Type 0} (u : ℕ) (h g : ℕ → List (Fact V)) (F : List (Fact V)) (x : ℕ) (log : LogState V)
    (o : Option (Leader V)) → AllGrew h g → IfSome o (λ l. LeaderOk u h F x log l) → IfSome o (λ l. LeaderOk u g F x log l)
leader-grew u h g F x log None m k = tt
leader-grew u h g F x log (Some l) m k = record {
  is_promised = k.is_promised;
  mine = k.mine;
  led = k.led;
  own = k.own;
  joined = λ a lt q. report-grew (h a) (g a) l.ballot l.led_at l.best (m.at a) (k.joined a lt q);
  backed = backed-grew u h g l.ballot l.led_at l.best m k.backed;
}

-- a state that the event leaves as it is
pub state-grew : {V : Type 0} (u : ℕ) (h g : ℕ → List (Fact V)) (F : List (Fact V)) (xs ys : List (Packet V)) (x : ℕ)
    (log : LogState V) → AllGrew h g → SoupGrew u xs ys → StateOk u h F xs x log → StateOk u g F ys x log
state-grew u h g F xs ys x log m s k = record {
  promised = k.promised;
  accepted = k.accepted;
  learned = k.learned;
  seen = λ y b e. s.sent (length log.learned) b y (k.seen y b e);
  leader = leader-grew u h g F x log log.leader m k.leader;
}

-- A TURN

pub record Rest {V : Type 0} (u : ℕ) (g : ℕ → List (Fact V)) (F : List (Fact V)) (soup : List (Packet V)) (x : ℕ) (t : Turn V) : Type 0 where
  pub votes : (p : ℕ) (b : Ballot) (v : V) → DidVote F p b v → VoteOk u g p b v
  pub learned : (p : ℕ) (v : V) → slice_get (learned_in F) p ≡ Some v → Meets u soup p v
  pub sends : Every (SendOk u g soup x) t.sends
  pub state : StateOk u g F soup x t.state

-- the turn at x, whose facts come on top of what x has written, now or later
pub record TurnOk {V : Type 0} (u : ℕ) (h : ℕ → List (Fact V)) (soup : List (Packet V)) (x : ℕ) (t : Turn V) : Type 0 where
  pub orderly : Orderly (onto t.facts (h x))
  pub rest : (g : ℕ → List (Fact V)) → g x ≡ onto t.facts (h x) → AllGrew h g → Rest u g (onto t.facts (h x)) soup x t

pub all_same : {V : Type 0} (h : ℕ → List (Fact V)) → AllGrew h h
all_same h = record { at = λ y. grew-refl (h y) }

pub all_trans : {V : Type 0} (f g h : ℕ → List (Fact V)) → AllGrew f g → AllGrew g h → AllGrew f h
all_trans f g h a b = record { at = λ y. grew-trans (f y) (g y) (h y) (a.at y) (b.at y) }

-- a turn is still right after other nodes wrote and sent more
pub turn-grew : {V : Type 0} (u : ℕ) (h g : ℕ → List (Fact V)) (xs ys : List (Packet V)) (x : ℕ) (t : Turn V)
    → AllGrew h g → SoupGrew u xs ys → g x ≡ h x → TurnOk u h xs x t → TurnOk u g ys x t
turn-grew {V} u h g xs ys x t m s e k = record {
  orderly = rw e k.orderly;
  rest = λ f same n. rw e (later f (same ∙ ap (onto t.facts) e) (all_trans h g f m n));
}
  where
    later : (f : ℕ → List (Fact V)) → f x ≡ onto t.facts (h x) → AllGrew h f → Rest u f (onto t.facts (h x)) ys x t
    later f same n =
        let r : Rest u f (onto t.facts (h x)) xs x t = k.rest f same n in
        record {
          votes = r.votes;
          learned = λ p v q. s.meets p v (r.learned p v q);
          sends = sends-grew u f f xs ys x t.sends (all_same f) s r.sends;
          state = state-grew u f f (onto t.facts (h x)) xs ys x t.state (all_same f) s r.state;
        }

-- another list that a disk stands for after a fault: that of a turn that was right
pub record IsPending {V : Type 0} (u : ℕ) (h : ℕ → List (Fact V)) (soup : List (Packet V)) (x : ℕ) (R : List (List (Fact V))) : Type 0 where
  pub turn : Turn V
  pub is : newest R ≡ onto turn.facts (h x)
  pub ok : TurnOk u h soup x turn

abbrev pub ModeOk : {V : Type 0} → ℕ → (ℕ → List (Fact V)) → List (Packet V) → ℕ → LogNode V → Mode (LogState V) → Type 0
ModeOk u h soup x node (Up log) = (newest node.records ≡ h x) × StateOk u h (h x) soup x log
ModeOk u h soup x node Down = (newest node.records ≡ h x) × Every (IsPending u h soup x) node.others
ModeOk u h soup x node Gone = Unit {0}

pub record Inv {V : Type 0} (u : ℕ) (w : World V) : Type 0 where
  pub h : ℕ → List (Fact V)
  pub history : History u h w.soup
  pub nodes : (x : ℕ) → x < 2 * u + 1 → ModeOk u h w.soup x (w.nodes x) (w.nodes x).mode
