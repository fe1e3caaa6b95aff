-- What contracts see of one node's log.
use Rattle.std.specs.Prelude.{◌≡◌, ℕ, ◌+◌, ◌*◌, ◌<◌, ◌≤◌, Bool, List, [], ◌∷◌, length, Option, Some, None, IfSome, IsSome, option_map, if◌then◌else◌}
use Rattle.aeg_base.specs.Ballots.{same_ballot}
use Rattle.aeg_base.specs.declared.names.Ballot.{Ballot}
use Rattle.aeg_base.specs.declared.limits.TheConstants.{POSITIONS}
use Rattle.log_model.specs.declared.fact.Fact.{Fact}
use Rattle.log_model.specs.declared.fact.Fact.TheVariants.{Learned}
use Rattle.log_model.specs.declared.message.PaxMsg.{PaxMsg}
use Rattle.log_model.specs.declared.message.PaxMsg.TheVariants.{Accept, Accepted, Learn}
use Rattle.log_model.specs.declared.turn.Offering.{Offering}
use Rattle.log_model.specs.declared.turn.Offering.TheVariants.{Taken, Free}
use Rattle.log_model.specs.Log.{Leader, LogState, is, nobody}
use Rattle.log_model.specs.Recover.{onto, recover}
use Rattle.paxos_parts.specs.Acceptor.{AcceptorState, voted_at}
use Rattle.paxos_parts.specs.Learner.{LearnerState}
use Rattle.paxos_log.specs.declared.leading.Leading.{Leading}

-- the log of the node `me` in a tier of 2 * faults + 1
pub record NodeLog (V : Type 0) : Type 0 where
  pub faults : ℕ
  pub me : ℕ
  pub state : LogState V

-- the log in its next state
abbrev pub with_state : {V : Type 0} → NodeLog V → LogState V → NodeLog V
with_state log state = record { faults = log.faults; me = log.me; state = state }

-- the log before any fact
abbrev pub new_log : {V : Type 0} → ℕ → ℕ → NodeLog V
new_log u me = record { faults = u; me = me; state = recover u [] }

abbrev pub as_leader : {V : Type 0} → Leading V → Leader V
as_leader l = record { ballot = l.ballot; led_at = l.led_at; promisers = l.promisers; best = l.best; last = l.last }

-- the leader, where it leads with this ballot
abbrev pub kept : {V : Type 0} → Option (Leading V) → Ballot → Option (Leading V)
kept None b = None
kept (Some l) b = if same_ballot l.ballot b then Some l else None

-- the leader has sent a value at p
abbrev pub sent : {V : Type 0} → Option (Leading V) → ℕ → Option (Leading V)
sent None p = None
sent (Some l) p = Some (record { ballot = l.ballot; led_at = l.led_at; promisers = l.promisers; best = l.best; last = Some p })

-- the state that acceptor, learner and leader make
abbrev pub joined : {V : Type 0} → AcceptorState V → LearnerState V → Option (Leading V) → LogState V
joined a n leader = record {
  promised = a.promised;
  accepted = voted_at a.vote (length n.learned);
  learned = n.learned;
  seen = n.seen;
  leader = option_map as_leader leader;
}

-- a leader leads with the promised ballot, and has a place for what each node promised
abbrev pub IsLed : {V : Type 0} → AcceptorState V → LearnerState V → Option (Leading V) → Type 0
IsLed a n leader = IfSome leader (λ l. (length l.promisers ≡ 2 * n.faults + 1) × (l.ballot ≡ a.promised))

-- nothing is accepted past the first open position
abbrev pub IsOpen : {V : Type 0} → AcceptorState V → LearnerState V → Type 0
IsOpen a n = IfSome a.vote (λ vote. vote.at ≤ length n.learned)

-- nobody is skipped, or this node
abbrev pub skips : Option ℕ → ℕ → Bool
skips None = nobody
skips (Some x) = is x

-- a position with a value is one of the log
abbrev pub HasPlace : {V : Type 0} → PaxMsg V → Type 0
HasPlace (Accept b p v) = p < POSITIONS
HasPlace (Accepted b p v) = p < POSITIONS
HasPlace (Learn p v) = p < POSITIONS
HasPlace message = Unit {0}

-- there is a value to offer: a reported one, or the own one where it's wanted
abbrev pub CanOffer : {V : Type 0} → Offering → Option V → Type 0
CanOffer Taken own = Unit {0}
CanOffer (Free p) own = IsSome own
CanOffer wants own = ⊥

-- the position that is open after the fact
abbrev pub after_fact : {V : Type 0} → ℕ → Fact V → ℕ
after_fact n (Learned p v) = n + 1
after_fact n fact = n

-- a Learned fact is of the position n
abbrev pub IsNext : {V : Type 0} → ℕ → Fact V → Type 0
IsNext n (Learned p v) = (p ≡ n) × (p < POSITIONS)
IsNext n fact = Unit {0}

-- the Learned facts, the oldest one in front, stand in order of position, from n on without a gap
abbrev pub AreInOrder : {V : Type 0} → ℕ → List (Fact V) → Type 0
AreInOrder n [] = Unit {0}
AreInOrder n (fact ∷ facts) = IsNext n fact × AreInOrder (after_fact n fact) facts

-- the newest fact in front
abbrev pub newest_first : {V : Type 0} → List (Fact V) → List (Fact V)
newest_first facts = onto facts []
