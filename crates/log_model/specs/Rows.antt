-- The rows of one node's log: what each message and command does, in the order in which its cases are tried.
use Rattle.std.specs.Prelude.{ℕ, ◌+◌, ◌*◌, Bool, true, false, ◌&&◌, not, List, [], ◌∷◌, ◌++◌, length, nat_lt, nat_le}
use Rattle.std.specs.Prelude.{◌==◌, if◌then◌else◌, Option, Some, None, slice_get, slice_set, replicate}
use Rattle.aeg_base.specs.Ballots.{same_ballot, is_below, is_at_most}
use Rattle.aeg_base.specs.declared.names.Ballot.{Ballot}
use Rattle.aeg_base.specs.declared.limits.TheConstants.{POSITIONS}
use Rattle.log_model.specs.declared.fact.Fact.TheVariants.{Promised, Accepted as Voted, Learned}
use Rattle.log_model.specs.declared.message.PaxMsg.{PaxMsg}
use Rattle.log_model.specs.declared.message.PaxMsg.TheVariants.{Prepare, Promise, Accept, Accepted, Ask, Learn, Behind}
use Rattle.log_model.specs.declared.turn.LogIdle.TheVariants.{BallotSpent, Stale, Behind as IsBehind, Nothing}
use Rattle.log_model.specs.declared.turn.Offering.{Offering}
use Rattle.log_model.specs.declared.turn.Offering.TheVariants.{NotLeader, NoPromises, InFlight, LogFull, Taken, Free}
use Rattle.log_model.specs.Log.{Leader, LogState, Turn, open_at, idles, stays, says, has, seen_at, count_below, to_each}
use Rattle.log_model.specs.Log.{nobody, is, is_none, is_at, is_better, has_ballot, is_from, noted, with_ballot}

-- TELLING WHAT IS LEARNED

-- Learn(p, value) to s, where there is a value
abbrev pub tells : {V : Type 0} → ℕ → ℕ → Option V → List (ℕ × PaxMsg V)
tells s p None = []
tells s p (Some v) = (s, Learn p v) ∷ []

-- the value learned at p is told to s
abbrev pub tell : {V : Type 0} → LogState V → ℕ → ℕ → Turn V
tell log s p = says log (tells s p (slice_get log.learned p))

-- LEADING

-- the last counter of a ballot
abbrev pub last_counter : ℕ
last_counter = 4294967295

-- the ballot with which x leads next
abbrev pub next_ballot : {V : Type 0} → ℕ → LogState V → Ballot
next_ballot x log = record { counter = log.promised.counter + 1; node = x }

-- x begins to lead: it promises its next ballot to itself and asks the others for theirs
abbrev pub leads : {V : Type 0} → ℕ → ℕ → LogState V → Turn V
leads u x log = record {
  state = record {
    promised = next_ballot x log;
    accepted = log.accepted;
    learned = log.learned;
    seen = log.seen;
    leader = Some (record {
      ballot = next_ballot x log;
      led_at = open_at log;
      promisers = slice_set (replicate (2 * u + 1) false) x true;
      best = log.accepted;
      last = None;
    });
  };
  facts = Promised (next_ballot x log) ∷ [];
  sends = to_each (2 * u + 1) (is x) (Prepare (next_ballot x log) (open_at log));
  learned = None;
  idle = None;
}

-- the rows of the command to lead, at the node x
abbrev pub lead : {V : Type 0} → ℕ → ℕ → LogState V → Turn V
lead u x log = if log.promised.counter == last_counter then idles log BallotSpent else leads u x log

-- PROMISES

-- what a promise at p reports
abbrev pub reports : {V : Type 0} → LogState V → ℕ → Option (Ballot × V)
reports log p = if open_at log == p then log.accepted else None

-- b is promised to s, with what was accepted at p; a leader of a lower ballot stops to lead
abbrev pub promises : {V : Type 0} → LogState V → ℕ → Ballot → ℕ → Turn V
promises log s b p = record {
  state = record { promised = b; accepted = log.accepted; learned = log.learned; seen = log.seen; leader = None };
  facts = Promised b ∷ [];
  sends = (s, Promise b p (reports log p)) ∷ [];
  learned = None;
  idle = None;
}

-- the rows of Prepare(b, p) from s
abbrev pub on_prepare : {V : Type 0} → LogState V → ℕ → Ballot → ℕ → Turn V
on_prepare log s b p =
    if nat_lt p (open_at log) then tell log s p
    else if is_at_most b log.promised then idles log (Stale log.promised)
    else promises log s b p

-- the leader with one more promiser, and the better one of its best report and this one
abbrev pub join : {V : Type 0} → Leader V → ℕ → ℕ → Option (Ballot × V) → Leader V
join leader s p a = record {
  ballot = leader.ballot;
  led_at = leader.led_at;
  promisers = slice_set leader.promisers s true;
  best = if (p == leader.led_at && is_better a leader.best) then a else leader.best;
  last = leader.last;
}

-- s joins the promisers
abbrev pub joins : {V : Type 0} → LogState V → Leader V → ℕ → ℕ → Option (Ballot × V) → Turn V
joins log leader s p a = says (record {
  promised = log.promised;
  accepted = log.accepted;
  learned = log.learned;
  seen = log.seen;
  leader = Some (join leader s p a);
}) []

-- the rows of Promise(b, p, a) from s
abbrev pub on_promise : {V : Type 0} → LogState V → Option (Leader V) → ℕ → Ballot → ℕ → Option (Ballot × V) → Turn V
on_promise log None s b p a = idles log Nothing
on_promise log (Some leader) s b p a =
    if (same_ballot leader.ballot b && (is_none leader.last && not (has leader.promisers s))) then joins log leader s p a else idles log Nothing

-- OFFERS

-- how many have promised
abbrev pub promised_by : {V : Type 0} → ℕ → Leader V → ℕ
promised_by u leader = count_below (2 * u + 1) (has leader.promisers)

-- a promise reported a value at the open position f
abbrev pub is_taken : {V : Type 0} → ℕ → Leader V → Bool
is_taken f leader = (f == leader.led_at) && not (is_none leader.best)

-- what a leader would offer, by the first case that holds
abbrev pub wants_as : {V : Type 0} → ℕ → LogState V → Option (Leader V) → Offering
wants_as u log None = NotLeader
wants_as u log (Some leader) =
    if nat_le (promised_by u leader) u then NoPromises (promised_by u leader)
    else if open_at log == POSITIONS then LogFull
    else if is_at leader.last (open_at log) then InFlight (open_at log)
    else if is_taken (open_at log) leader then Taken
    else Free (open_at log)

abbrev pub wants : {V : Type 0} → ℕ → LogState V → Offering
wants u log = wants_as u log log.leader

abbrev pub value_or : {V : Type 0} → Option (Ballot × V) → Option V → Option V
value_or None own = own
value_or (Some a) own = Some a.1

-- the value to offer at the open position f: a reported one before an own one
abbrev pub to_offer : {V : Type 0} → ℕ → Leader V → Option V → Option V
to_offer f leader own = if f == leader.led_at then value_or leader.best own else own

-- the value is accepted at the open position and offered to all
abbrev pub offers : {V : Type 0} → ℕ → ℕ → LogState V → Leader V → Option V → Turn V
offers u x log leader None = stays log
offers u x log leader (Some v) = record {
  state = record {
    promised = log.promised;
    accepted = Some (leader.ballot, v);
    learned = log.learned;
    seen = log.seen;
    leader = Some (record { ballot = leader.ballot; led_at = leader.led_at; promisers = leader.promisers; best = leader.best; last = Some (open_at log) });
  };
  facts = Voted (open_at log) leader.ballot v ∷ [];
  sends = to_each (2 * u + 1) (is x) (Accept leader.ballot (open_at log) v) ++ to_each (2 * u + 1) nobody (Accepted leader.ballot (open_at log) v);
  learned = None;
  idle = None;
}

-- the command to offer at the node x, which has an own value or none: nothing where `wants` tells why not
abbrev pub offer_as : {V : Type 0} → ℕ → ℕ → LogState V → Option (Leader V) → Option V → Turn V
offer_as u x log None own = stays log
offer_as u x log (Some leader) own =
    if nat_le (promised_by u leader) u then stays log
    else if open_at log == POSITIONS then stays log
    else if is_at leader.last (open_at log) then stays log
    else offers u x log leader (to_offer (open_at log) leader own)

abbrev pub offer : {V : Type 0} → ℕ → ℕ → LogState V → Option V → Turn V
offer u x log own = offer_as u x log log.leader own

-- ACCEPTING

-- a leader of another ballot stops to lead
abbrev pub kept_leader : {V : Type 0} → Ballot → Option (Leader V) → Option (Leader V)
kept_leader b None = None
kept_leader b (Some leader) = if same_ballot leader.ballot b then Some leader else None

-- v is accepted at p with b, and all are told
abbrev pub accepts : {V : Type 0} → ℕ → LogState V → Ballot → ℕ → V → Turn V
accepts u log b p v = record {
  state = record { promised = b; accepted = Some (b, v); learned = log.learned; seen = log.seen; leader = kept_leader b log.leader };
  facts = Voted p b v ∷ [];
  sends = to_each (2 * u + 1) nobody (Accepted b p v);
  learned = None;
  idle = None;
}

-- all are told again what was accepted with b
abbrev pub says_again : {V : Type 0} → ℕ → Ballot → ℕ → Option (Ballot × V) → List (ℕ × PaxMsg V)
says_again u b p None = []
says_again u b p (Some a) = to_each (2 * u + 1) nobody (Accepted b p a.1)

-- the rows of Accept(b, p, v) from s
abbrev pub on_accept : {V : Type 0} → ℕ → LogState V → ℕ → Ballot → ℕ → V → Turn V
on_accept u log s b p v =
    if nat_lt p (open_at log) then tell log s p
    else if nat_lt (open_at log) p then says log ((s, Behind (open_at log)) ∷ [])
    else if is_below b log.promised then idles log (Stale log.promised)
    else if has_ballot b log.accepted then says log (says_again u b p log.accepted)
    else accepts u log b p v

-- LEARNING

-- the open position is learned: what was accepted and noted there is forgotten
abbrev pub learns : {V : Type 0} → LogState V → V → LogState V
learns log v = record {
  promised = log.promised;
  accepted = None;
  learned = log.learned ++ v ∷ [];
  seen = replicate (length log.seen) None;
  leader = log.leader;
}

abbrev pub learned_turn : {V : Type 0} → LogState V → ℕ → V → List (ℕ × PaxMsg V) → Turn V
learned_turn log p v sends = record { state = learns log v; facts = Learned p v ∷ []; sends = sends; learned = Some p; idle = None }

-- s has accepted with b
abbrev pub notes : {V : Type 0} → LogState V → ℕ → Ballot → Turn V
notes log s b = says (record { promised = log.promised; accepted = log.accepted; learned = log.learned; seen = noted log.seen s b; leader = log.leader }) []

-- the rows of Accepted(b, p, v) from s
abbrev pub on_accepted : {V : Type 0} → ℕ → LogState V → ℕ → Ballot → ℕ → V → Turn V
on_accepted u log s b p v =
    if nat_lt p (open_at log) then idles log Nothing
    else if nat_lt (open_at log) p then idles log (IsBehind (open_at log))
    else if is_from b (seen_at log.seen s) then idles log Nothing
    else if nat_lt u (count_below (2 * u + 1) (with_ballot log.seen s b)) then learned_turn log p v []
    else notes log s b

-- the rows of Learn(p, v) from s
abbrev pub on_learn : {V : Type 0} → LogState V → ℕ → ℕ → V → Turn V
on_learn log s p v =
    if nat_lt p (open_at log) then idles log Nothing
    else if nat_lt (open_at log) p then idles log (IsBehind (open_at log))
    else learned_turn log p v ((s, Ask (p + 1)) ∷ [])

-- the rows of Ask(p) and Behind(p) from s
abbrev pub on_ask : {V : Type 0} → LogState V → ℕ → ℕ → Turn V
on_ask log s p = if nat_lt p (open_at log) then tell log s p else idles log Nothing

-- the rows of a message from s
abbrev pub on_msg : {V : Type 0} → ℕ → LogState V → ℕ → PaxMsg V → Turn V
on_msg u log s (Prepare b p) = on_prepare log s b p
on_msg u log s (Promise b p a) = on_promise log log.leader s b p a
on_msg u log s (Accept b p v) = on_accept u log s b p v
on_msg u log s (Accepted b p v) = on_accepted u log s b p v
on_msg u log s (Ask p) = on_ask log s p
on_msg u log s (Learn p v) = on_learn log s p v
on_msg u log s (Behind p) = on_ask log s p
