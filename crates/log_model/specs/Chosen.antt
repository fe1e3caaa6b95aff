-- Chosen values, and what agreement says of packets and disks.
use Rattle.std.specs.Prelude.{◌≡◌, ℕ, ◌+◌, ◌*◌, ◌<◌, ◌⊎◌, Bool, true, false, ◌&&◌, List, [], ◌∷◌, length, nat_lt, ◌==◌}
use Rattle.std.specs.Prelude.{if◌then◌else◌, Option, Some, None, IsTrue, slice_get}
use Rattle.aeg_base.specs.Ballots.{same_ballot, is_at_most}
use Rattle.aeg_base.specs.declared.names.Ballot.{Ballot}
use Rattle.log_model.specs.declared.message.PaxMsg.{PaxMsg}
use Rattle.log_model.specs.declared.message.PaxMsg.TheVariants.{Prepare, Promise, Accept, Accepted}
use Rattle.log_model.specs.declared.fact.Fact.{Fact}
use Rattle.log_model.specs.Log.{LogState, count_below}
use Rattle.log_model.specs.World.{Packet, Mode, LogNode, World, Event, happens, start}
use Rattle.log_model.specs.Nodes.Mode.{Up, Down, Gone}

-- an Accepted of x with this ballot at p
abbrev pub is_vote : {V : Type 0} → ℕ → Ballot → ℕ → PaxMsg V → ℕ → Bool
is_vote p b x (Accepted c q v) from = from == x && (q == p && same_ballot c b)
is_vote p b x m from = false

-- x has sent Accepted with this ballot at p
abbrev pub has_sent : {V : Type 0} → List (Packet V) → ℕ → Ballot → ℕ → Bool
has_sent [] p b x = false
has_sent (k ∷ ks) p b x = if is_vote p b x k.msg k.from then true else has_sent ks p b x

-- u+1 nodes have
abbrev pub is_reached : {V : Type 0} → ℕ → List (Packet V) → ℕ → Ballot → Bool
is_reached u soup p b = nat_lt u (count_below (2 * u + 1) (has_sent soup p b))

-- the value of an Accepted at p whose ballot u+1 nodes have sent there
abbrev pub reached_by : {V : Type 0} → ℕ → List (Packet V) → ℕ → PaxMsg V → Option V
reached_by u soup p (Accepted b q v) = if (q == p && is_reached u soup p b) then Some v else None
reached_by u soup p m = None

abbrev pub or_else : {A : Type 0} → Option A → Option A → Option A
or_else None o = o
or_else (Some a) o = Some a

-- the value of the first of these packets that is such an Accepted
abbrev pub chosen_among : {V : Type 0} → ℕ → List (Packet V) → ℕ → List (Packet V) → Option V
chosen_among u soup p [] = None
chosen_among u soup p (k ∷ ks) = or_else (reached_by u soup p k.msg) (chosen_among u soup p ks)

-- the first value, by prefixes of the events, that u+1 nodes have sent at p with one ballot
abbrev pub chosen_from : {V : Type 0} → ℕ → List (Event V) → World V → ℕ → Option V
chosen_from u [] w p = chosen_among u w.soup p w.soup
chosen_from u (e ∷ es) w p = or_else (chosen_among u w.soup p w.soup) (chosen_from u es (happens u w e) p)

abbrev pub chosen : {V : Type 0} → ℕ → List (Event V) → ℕ → Option V
chosen u es p = chosen_from u es start p

-- The condition of being chosen: Accepted packets at p with one ballot, one of them with the value v, were sent by u+1 nodes.
pub record Meets {V : Type 0} (u : ℕ) (soup : List (Packet V)) (p : ℕ) (v : V) : Type 0 where
  pub ballot : Ballot
  pub place : ℕ
  pub packet : Packet V
  pub is_sent : slice_get soup place ≡ Some packet
  pub is_accepted : packet.msg ≡ Accepted ballot p v
  pub is_reached_by : is_reached u soup p ballot ≡ true

-- a node that is up has learned v at p
abbrev pub HasLearned : {V : Type 0} → Mode (LogState V) → ℕ → V → Type 0
HasLearned (Up log) p v = slice_get log.learned p ≡ Some v
HasLearned Down p v = ⊥
HasLearned Gone p v = ⊥

-- the message is an Accept or an Accepted of v with b at p
abbrev pub Carries : {V : Type 0} → PaxMsg V → Ballot → ℕ → V → Type 0
Carries (Accept c q w) b p v = (c ≡ b) × (q ≡ p) × (w ≡ v)
Carries (Accepted c q w) b p v = (c ≡ b) × (q ≡ p) × (w ≡ v)
Carries m b p v = ⊥

-- who sends the message has promised b
abbrev pub Binds : {V : Type 0} → PaxMsg V → Ballot → Type 0
Binds (Prepare c q) b = c ≡ b
Binds (Promise c q a) b = c ≡ b
Binds (Accepted c q w) b = c ≡ b
Binds m b = ⊥

-- the disk of the node may stand for these records
abbrev pub StandsFor : {V : Type 0} → LogNode V → Mode (LogState V) → List (List (Fact V)) → Type 0
StandsFor node (Up log) records = node.records ≡ records
StandsFor node Down records = (node.records ≡ records) ⊎ ((k : ℕ) × (slice_get node.others k ≡ Some records))
StandsFor node Gone records = ⊥

-- what was accepted has the ballot b or a higher one
abbrev pub HasFrom : {V : Type 0} → Ballot → Option (Ballot × V) → Type 0
HasFrom b None = ⊥
HasFrom b (Some a) = IsTrue (is_at_most b a.0)

-- the log has learned p, or accepted at p with b or a higher ballot
abbrev pub KeepsVote : {V : Type 0} → LogState V → ℕ → Ballot → Type 0
KeepsVote log p b = (p < length log.learned) ⊎ ((p ≡ length log.learned) × HasFrom b log.accepted)
