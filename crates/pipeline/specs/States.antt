-- What a node keeps of its rounds from one to the next, and the calls that wait.
use Rattle.std.specs.Prelude.{◌≡◌, ℕ, ◌+◌, Bool, List, [], ◌∷◌, ◌++◌, map, replicate}
use Rattle.std.specs.List.{filter}
use Rattle.aeg_base.specs.declared.names.Tier.{Tier}
use Rattle.aeg_base.specs.declared.names.Tier.TheVariants.{Mid, Inv, Pay}
use Rattle.svc_api.specs.declared.action.Ending.{Ending}
use Rattle.server_model.specs.Server.{same_tier}
use Rattle.log_values.specs.declared.entry.Entry.{Entry}
use Rattle.round_model.specs.Lists.{head_of, tail_of, OfTiers}
use Rattle.round_model.specs.Tables.{Parked, Tables, Want, resumed, started, parks, next_after}

-- The round that comes next; the requests that wait for their calls, as many lists as the depth, those of the oldest
-- round first; and the next number of a call to each tier.
pub record RoundsState : Type 0 where
  pub next : ℕ
  pub queue : List (List Parked)
  pub numbers : OfTiers ℕ

-- before the first round
abbrev pub at_first : ℕ → RoundsState
at_first depth = record { next = 0; queue = replicate depth []; numbers = record { mid = 1; inv = 1; pay = 1 } }

-- what the segments of the next round want: the requests that wait longest, then the fresh entries
abbrev pub next_wants : RoundsState → List Entry → List Want
next_wants s fresh = map resumed (head_of s.queue) ++ map started fresh

-- after the next round, with these segments, which came to these ends
abbrev pub moved_on : RoundsState → List Want → List Ending → RoundsState
moved_on s ws ends = record {
  next = s.next + 1;
  queue = tail_of s.queue ++ parks s.numbers ws ends ∷ [];
  numbers = next_after s.numbers ends;
}

-- the greatest number that a call can have
abbrev pub greatest : ℕ
greatest = 4294967295

-- it keeps what the tables before round r have
pub record Keeps (s : RoundsState) (r : ℕ) (T : Tables) : Type 0 where
  pub next : s.next ≡ r
  pub queue : s.queue ≡ T.queue
  pub numbers : s.numbers ≡ T.next

-- THE CALLS THAT WAIT

-- a call with its number and its text
abbrev pub call_of : Parked → Tier × ℕ × List ℕ
call_of p = (p.tier, p.num, p.text)

abbrev pub to_tier : Tier → Parked → Bool
to_tier t p = same_tier p.tier t

-- those that called the tier
abbrev pub calling : Tier → List Parked → List Parked
calling t ps = filter (to_tier t) ps

-- by tier
abbrev pub by_tier : List Parked → List Parked
by_tier ps = calling Mid ps ++ (calling Inv ps ++ calling Pay ps)

-- each with the number of its call
abbrev pub numbered : List Parked → List (ℕ × Parked)
numbered ps = map (λ p. (p.num, p)) ps
