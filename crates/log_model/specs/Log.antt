-- The log of one node of a tier of 2u+1: its state, and what an event makes of it.
use Rattle.std.specs.Prelude.{ℕ, zero, suc, ◌+◌, Bool, true, false, List, [], ◌∷◌, ◌++◌, length, ◌==◌, if◌then◌else◌}
use Rattle.std.specs.Prelude.{Option, Some, None, slice_set, slice_index_or}
use Rattle.aeg_base.specs.Ballots.{same_ballot, is_below, is_at_most}
use Rattle.aeg_base.specs.declared.names.Ballot.{Ballot}
use Rattle.log_model.specs.declared.fact.Fact.{Fact}
use Rattle.log_model.specs.declared.message.PaxMsg.{PaxMsg}
use Rattle.log_model.specs.declared.turn.LogIdle.{LogIdle}
use Rattle.log_model.specs.declared.turn.LogTurn.{LogTurn}

-- A leader: its ballot, the first open position as it began to lead, who has promised, the best that the promises
-- reported at that position, and the last position at which it sent a value.
pub record Leader (V : Type 0) : Type 0 where
  pub ballot : Ballot
  pub led_at : ℕ
  pub promisers : List Bool
  pub best : Option (Ballot × V)
  pub last : Option ℕ

-- The promised ballot, what was accepted at the first open position, the values learned from position 0 on, for each
-- sender the highest ballot that it accepted there, and the leader's part.
pub record LogState (V : Type 0) : Type 0 where
  pub promised : Ballot
  pub accepted : Option (Ballot × V)
  pub learned : List V
  pub seen : List (Option Ballot)
  pub leader : Option (Leader V)

-- What an event does: the next state, the facts to write down, the messages with the node that each goes to, the
-- position that is learned, and why nothing happens.
pub record Turn (V : Type 0) : Type 0 where
  pub state : LogState V
  pub facts : List (Fact V)
  pub sends : List (ℕ × PaxMsg V)
  pub learned : Option ℕ
  pub idle : Option LogIdle

-- what a caller gets of a turn
abbrev pub told : {V : Type 0} → Turn V → LogTurn V
told t = record { facts = t.facts; sends = t.sends; learned = t.learned; idle = t.idle }

-- the first open position
abbrev pub open_at : {V : Type 0} → LogState V → ℕ
open_at log = length log.learned

-- nothing happens, for a reason that is told
abbrev pub idles : {V : Type 0} → LogState V → LogIdle → Turn V
idles log why = record { state = log; facts = []; sends = []; learned = None; idle = Some why }

-- nothing happens, for a reason that is told elsewhere
abbrev pub stays : {V : Type 0} → LogState V → Turn V
stays log = record { state = log; facts = []; sends = []; learned = None; idle = None }

-- only messages are sent
abbrev pub says : {V : Type 0} → LogState V → List (ℕ × PaxMsg V) → Turn V
says log sends = record { state = log; facts = []; sends = sends; learned = None; idle = None }

-- y is in the set
abbrev pub has : List Bool → ℕ → Bool
has set y = slice_index_or set y false

-- the highest ballot that y accepted at the first open position
abbrev pub seen_at : List (Option Ballot) → ℕ → Option Ballot
seen_at seen y = slice_index_or seen y None

-- how many numbers below n pass the test
abbrev pub count_below : ℕ → (ℕ → Bool) → ℕ
count_below zero test = 0
count_below (suc n) test = (if test n then 1 else 0) + count_below n test

-- the message to each node below n that isn't skipped, by ascending index
abbrev pub to_each : {V : Type 0} → ℕ → (ℕ → Bool) → PaxMsg V → List (ℕ × PaxMsg V)
to_each zero skip message = []
to_each (suc n) skip message = to_each n skip message ++ (if skip n then [] else (n, message) ∷ [])

-- nobody is skipped
abbrev pub nobody : ℕ → Bool
nobody y = false

-- y is x
abbrev pub is : ℕ → ℕ → Bool
is x y = y == x

abbrev pub is_none : {A : Type 0} → Option A → Bool
is_none None = true
is_none (Some a) = false

-- the position is this one
abbrev pub is_at : Option ℕ → ℕ → Bool
is_at None p = false
is_at (Some q) p = q == p

-- the first report has the higher ballot
abbrev pub is_better : {V : Type 0} → Option (Ballot × V) → Option (Ballot × V) → Bool
is_better None best = false
is_better (Some a) None = true
is_better (Some a) (Some b) = is_below b.0 a.0

-- what was accepted has this ballot
abbrev pub has_ballot : {V : Type 0} → Ballot → Option (Ballot × V) → Bool
has_ballot b None = false
has_ballot b (Some a) = same_ballot a.0 b

-- the ballot seen is this one
abbrev pub is_ballot : Ballot → Option Ballot → Bool
is_ballot b None = false
is_ballot b (Some c) = same_ballot c b

-- the ballot seen is this one or a higher one
abbrev pub is_from : Ballot → Option Ballot → Bool
is_from b None = false
is_from b (Some c) = is_at_most b c

-- s has accepted with b
abbrev pub noted : List (Option Ballot) → ℕ → Ballot → List (Option Ballot)
noted seen s b = slice_set seen s (Some b)

-- y has accepted with b, once s has
abbrev pub with_ballot : List (Option Ballot) → ℕ → Ballot → ℕ → Bool
with_ballot seen s b y = is_ballot b (seen_at (noted seen s b) y)
