-- Who has accepted what, as it is seen in a tier's packets: a position's value is chosen once u+1 nodes have sent Accepted
-- there with one ballot (Lamport, Paxos Made Simple).
use Rattle.std.specs.Prelude.{ℕ, ◌+◌, Bool, false, ◌&&◌, ◌||◌, ◌==◌, nat_lt, nat_le, List, [], ◌∷◌, ◌++◌, length, if◌then◌else◌}
use Rattle.aeg_base.specs.Ballots.{same_ballot}
use Rattle.aeg_base.specs.declared.names.Ballot.{Ballot}
use Rattle.log_model.specs.declared.message.PaxMsg.{PaxMsg}
use Rattle.log_model.specs.declared.message.PaxMsg.TheVariants.{Accepted}
use Rattle.log_model.specs.World.{Packet}
use Rattle.svc_api.specs.Orders.{mem}

-- the nodes that have sent Accepted with the ballot at the position, each once
pub record Tally : Type 0 where
  pub pos : ℕ
  pub ballot : Ballot
  pub senders : List ℕ

abbrev pub with_sender : List ℕ → ℕ → List ℕ
with_sender senders x = if mem x senders then senders else senders ++ x ∷ []

abbrev pub is_of : Tally → ℕ → Ballot → Bool
is_of t p b = (t.pos == p) && same_ballot t.ballot b

abbrev pub adds : Tally → ℕ → Tally
adds t x = record { pos = t.pos; ballot = t.ballot; senders = with_sender t.senders x }

-- x has sent Accepted with b at p
abbrev pub counted : List Tally → ℕ → Ballot → ℕ → List Tally
counted [] p b x = record { pos = p; ballot = b; senders = x ∷ [] } ∷ []
counted (t ∷ ts) p b x = if is_of t p b then adds t x ∷ ts else t ∷ counted ts p b x

-- one packet more
abbrev pub heard : {V : Type 0} → List Tally → ℕ → PaxMsg V → List Tally
heard ts x (Accepted b p v) = counted ts p b x
heard ts x message = ts

abbrev pub tallied_from : {V : Type 0} → List Tally → List (Packet V) → List Tally
tallied_from ts [] = ts
tallied_from ts (k ∷ ks) = tallied_from (heard ts k.from k.msg) ks

-- all packets of the tier's log
abbrev pub tallied : {V : Type 0} → List (Packet V) → List Tally
tallied soup = tallied_from [] soup

-- those at the position and behind it
abbrev pub tallies_from : ℕ → List Tally → List Tally
tallies_from p [] = []
tallies_from p (t ∷ ts) = if nat_le p t.pos then t ∷ tallies_from p ts else tallies_from p ts

-- a tally at the position has more than u senders
abbrev pub is_chosen : ℕ → List Tally → ℕ → Bool
is_chosen u [] p = false
is_chosen u (t ∷ ts) p = ((t.pos == p) && nat_lt u (length t.senders)) || is_chosen u ts p

-- What is seen of a tier: how many positions are chosen, and the tallies of those that are not.
pub record Seen : Type 0 where
  pub faults : ℕ
  pub chosen : ℕ
  pub tallies : List Tally

-- nothing was sent
abbrev pub new_seen : ℕ → Seen
new_seen u = record { faults = u; chosen = 0; tallies = [] }

-- these packets were sent, and so many positions are chosen
abbrev pub seen_of : {V : Type 0} → ℕ → List (Packet V) → ℕ → Seen
seen_of u soup chosen = record { faults = u; chosen = chosen; tallies = tallies_from chosen (tallied soup) }

abbrev pub hears : {V : Type 0} → Seen → ℕ → PaxMsg V → Seen
hears s x (Accepted b p v) = if nat_lt p s.chosen then s else record { faults = s.faults; chosen = s.chosen; tallies = counted s.tallies p b x }
hears s x message = s

-- the first open position is chosen, where it can be
abbrev pub grown : Seen → Seen
grown s = if is_chosen s.faults s.tallies s.chosen then record {
  faults = s.faults;
  chosen = s.chosen + 1;
  tallies = tallies_from (s.chosen + 1) s.tallies;
} else s
