-- The answers that a replica holds, by tier and number, and who else is known to hold them.
use Rattle.std.specs.Prelude.{◌≡◌, ℕ, ◌+◌, ◌*◌, ◌<◌, Bool, true, false, ◌||◌, nat_lt, List, [], map, replicate, slice_set, Option, Some, None, if◌then◌else◌}
use Rattle.aeg_base.specs.declared.names.Tier.{Tier}
use Rattle.log_model.specs.Log.{count_below, has, is}
use Rattle.round_model.specs.declared.answer.Answer.{Answer}
use Rattle.round_model.specs.Lists.{and_then, OfTiers, of_tier, with_tier}
use Rattle.round_model.specs.Numbered.{find, put, last, least_open}

-- A replica of a tier of 2u+1: the number u, its own index, and the answers that it holds of each tier.
pub record HeldState : Type 0 where
  pub faults : ℕ
  pub me : ℕ
  pub answers : OfTiers (List (ℕ × Answer))

abbrev pub answers_of : HeldState → Tier → List (ℕ × Answer)
answers_of h t = of_tier h.answers t

abbrev pub with_answers : HeldState → Tier → List (ℕ × Answer) → HeldState
with_answers h t answers = record h { answers = with_tier h.answers t answers }

-- nothing is held
abbrev pub none_held : ℕ → ℕ → HeldState
none_held u me = record { faults = u; me = me; answers = record { mid = []; inv = []; pay = [] } }

-- nobody else told that it holds it
abbrev pub untold : ℕ → Answer
untold code = record { code = code; noted = replicate 5 false }

-- y told that it holds it
abbrev pub told_by : Answer → ℕ → Answer
told_by a y = record { code = a.code; noted = slice_set a.noted y true }

-- how many of 2u+1 replicas are known to hold it, me among them
abbrev pub holders : ℕ → ℕ → Answer → ℕ
holders u me a = count_below (2 * u + 1) (λ y. is me y || has a.noted y)

-- u+1 replicas are known to hold it
abbrev pub is_usable : ℕ → ℕ → Answer → Bool
is_usable u me a = nat_lt u (holders u me a)

-- the code of an answer that is held
abbrev pub held_code : HeldState → Tier → ℕ → Option ℕ
held_code h t n = and_then (find (answers_of h t) n) (λ a. Some a.code)

-- the code where u+1 replicas are known to hold the answer
abbrev pub code_if_usable : ℕ → ℕ → Answer → Option ℕ
code_if_usable u me a = if is_usable u me a then Some a.code else None

-- the code of an answer that is held and that u+1 replicas are known to hold
abbrev pub usable : HeldState → Tier → ℕ → Option ℕ
usable h t n = and_then (find (answers_of h t) n) (code_if_usable h.faults h.me)

-- an answer is held with this code, and more than u replicas, this one among them, are known to hold it
pub record IsHeldByMany (h : HeldState) (t : Tier) (n code : ℕ) : Type 0 where
  pub answer : Answer
  pub found : find (answers_of h t) n ≡ Some answer
  pub has_code : answer.code ≡ code
  pub many : h.faults < holders h.faults h.me answer

abbrev pub has_told : Option Answer → ℕ → Bool
has_told None y = false
has_told (Some a) y = has a.noted y

-- y told that it holds the answer
abbrev pub is_noted : HeldState → ℕ → Tier → ℕ → Bool
is_noted h y t n = has_told (find (answers_of h t) n) y

-- the answer with this number is this one
abbrev pub holds : HeldState → Tier → ℕ → Answer → HeldState
holds h t n a = with_answers h t (put (answers_of h t) n a)

abbrev pub takes_as : HeldState → Tier → ℕ → ℕ → Option Answer → HeldState
takes_as h t n code None = holds h t n (untold code)
takes_as h t n code (Some a) = h

-- the code is held from now on; one that is held already stays
abbrev pub takes : HeldState → Tier → ℕ → ℕ → HeldState
takes h t n code = takes_as h t n code (find (answers_of h t) n)

-- the answer once y told it: one that is held already keeps its code
abbrev pub heard : Option Answer → ℕ → ℕ → Answer
heard None code y = told_by (untold code) y
heard (Some a) code y = told_by a y

-- y tells that it holds the answer, with this code: so it is held here too
abbrev pub hears : HeldState → ℕ → Tier → ℕ → ℕ → HeldState
hears h y t n code = holds h t n (heard (find (answers_of h t) n) code y)

-- the greatest number of a call, where there are more
abbrev pub capped : ℕ → ℕ
capped n = if nat_lt 4294967295 n then 4294967295 else n

-- of these answers the least number from 1 that isn't usable
abbrev pub floor_of : ℕ → ℕ → List (ℕ × Answer) → ℕ
floor_of u me answers = capped (least_open (is_usable u me) 1 answers)

-- the least number from 1 that isn't usable, or the greatest number where all below it are
abbrev pub floor : HeldState → Tier → ℕ
floor h t = floor_of h.faults h.me (answers_of h t)

abbrev pub with_code : ℕ × Answer → ℕ × ℕ
with_code e = (e.0, e.1.code)

-- the 16 highest numbers that are held, ascending, with their codes
abbrev pub highest : HeldState → Tier → List (ℕ × ℕ)
highest h t = map with_code (last 16 (answers_of h t))
