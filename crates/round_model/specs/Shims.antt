-- What a backend replica keeps between its middle nodes and its log: copies of calls, answers, and floors.
use Rattle.std.specs.Prelude.{◌≡◌, ℕ, zero, suc, ◌+◌, ◌*◌, ◌<◌, ◌≤◌, Bool, true, false, ◌&&◌, ◌||◌, nat_lt, nat_le, List, [], replicate, slice_index}
use Rattle.std.specs.Prelude.{slice_index_or, slice_set, Option, Some, None, if◌then◌else◌}
use Rattle.std.specs.Str.{bytes_eq}
use Rattle.log_model.specs.Log.{count_below}
use Rattle.round_model.specs.Lists.{is_some, and_then, lowest}
use Rattle.round_model.specs.Numbered.{find, put, without, from, first, last, picked}

-- Middle nodes are a tier of 2u+1. The answers that are kept, by number; the settled floor; of each number the copy of
-- its call that each middle node gave; and the floor that each of them told.
pub record ShimState : Type 0 where
  pub faults : ℕ
  pub kept : List (ℕ × ℕ)
  pub floor : ℕ
  pub copies : List (ℕ × List (Option (List ℕ)))
  pub floors : List ℕ

-- nobody gave a copy
abbrev pub no_copies : List (Option (List ℕ))
no_copies = replicate 5 None

-- nothing was served or told
abbrev pub new_shim : ℕ → ShimState
new_shim u = record { faults = u; kept = []; floor = 1; copies = []; floors = replicate 5 1 }

-- COPIES

abbrev pub copy_of : List (Option (List ℕ)) → ℕ → Option (List ℕ)
copy_of copies y = slice_index_or copies y None

abbrev pub copies_or_none : Option (List (Option (List ℕ))) → List (Option (List ℕ))
copies_or_none None = no_copies
copies_or_none (Some copies) = copies

-- the copies of a call
abbrev pub copies_at : ShimState → ℕ → List (Option (List ℕ))
copies_at s n = copies_or_none (find s.copies n)

abbrev pub with_copy : List (Option (List ℕ)) → ℕ → List ℕ → List (Option (List ℕ))
with_copy copies y text = slice_set copies y (Some text)

-- the call was served, or its number is below the floor
abbrev pub is_done : ShimState → ℕ → Bool
is_done s n = nat_lt n s.floor || is_some (find s.kept n)

-- a copy that doesn't count: its call is done, or y gave one before
abbrev pub ignores : ShimState → ℕ → ℕ → Bool
ignores s y n = is_done s n || is_some (copy_of (copies_at s n) y)

-- y's copy of the call
abbrev pub notes : ShimState → ℕ → ℕ → List ℕ → ShimState
notes s y n text = record s { copies = put s.copies n (with_copy (copies_at s n) y text) }

abbrev pub takes_copy : ShimState → ℕ → ℕ → List ℕ → ShimState
takes_copy s y n text = if ignores s y n then s else notes s y n text

-- READY CALLS

abbrev pub is_text : List ℕ → Option (List ℕ) → Bool
is_text text None = false
is_text text (Some copy) = bytes_eq copy text

-- how many of 2u+1 nodes gave this text
abbrev pub givers : ℕ → List (Option (List ℕ)) → List ℕ → ℕ
givers u copies text = count_below (2 * u + 1) (λ y. is_text text (copy_of copies y))

-- u+1 nodes gave a copy equal to this one
abbrev pub is_backed : ℕ → List (Option (List ℕ)) → Option (List ℕ) → Bool
is_backed u copies None = false
is_backed u copies (Some text) = nat_lt u (givers u copies text)

-- the text that u+1 nodes gave
abbrev pub agreed : ℕ → List (Option (List ℕ)) → Option (List ℕ)
agreed u copies = and_then (lowest (2 * u + 1) (λ y. is_backed u copies (copy_of copies y))) (copy_of copies)

-- the calls that can be served, with their texts
abbrev pub ready_calls : ℕ → List (ℕ × List (Option (List ℕ))) → List (ℕ × List ℕ)
ready_calls u copies = picked (agreed u) copies

-- the least number of which u+1 nodes gave equal copies, with their text
abbrev pub ready : ShimState → Option (ℕ × List ℕ)
ready s = first (ready_calls s.faults s.copies)

-- the calls of which there are copies wait: none was served, and none is below the floor
abbrev pub AreWaiting : List (ℕ × ℕ) → ℕ → List (ℕ × List (Option (List ℕ))) → Type 0
AreWaiting kept floor copies = (k : ℕ) → is_some (find copies k) ≡ true → (nat_lt k floor || is_some (find kept k)) ≡ false

-- a call that waits and of which u+1 nodes gave this text, while of no lower number u+1 nodes gave one text
pub record IsLeastReady (s : ShimState) (call : ℕ × List ℕ) : Type 0 where
  pub waits : is_done s call.0 ≡ false
  pub many : s.faults < givers s.faults (copies_at s call.0) call.1
  pub least : (k : ℕ) (text : List ℕ) → k < call.0 → givers s.faults (copies_at s k) text ≤ s.faults

-- of no call u+1 nodes gave one text
abbrev pub IsNoneReady : ShimState → Type 0
IsNoneReady s = (k : ℕ) (text : List ℕ) → givers s.faults (copies_at s k) text ≤ s.faults

-- SERVING AND SETTLING

-- the call is served with this code: its copies are dropped
abbrev pub serves : ShimState → ℕ → ℕ → ShimState
serves s n code = record s { kept = put s.kept n code; copies = without s.copies n }

-- the floor rises, and what is below it is dropped
abbrev pub settles : ShimState → ℕ → ShimState
settles s g = if nat_lt s.floor g then record s { kept = from s.kept g; floor = g; copies = from s.copies g } else s

-- FLOORS THAT WERE TOLD

-- the floor that y told
abbrev pub floor_at : List ℕ → ℕ → ℕ
floor_at floors y = slice_index floors y

-- y's floor rises to g
abbrev pub rises_to : ShimState → ℕ → ℕ → Bool
rises_to s y g = nat_lt (floor_at s.floors y) g

-- y tells a floor, which only rises
abbrev pub told_floor : ShimState → ℕ → ℕ → ShimState
told_floor s y g = if rises_to s y g then record s { floors = slice_set s.floors y g } else s

-- u+1 of 2u+1 nodes told this floor or a higher one
abbrev pub many_at_least : ℕ → List ℕ → ℕ → Bool
many_at_least u floors g = nat_lt u (count_below (2 * u + 1) (λ y. nat_le g (floor_at floors y)))

-- a floor that is above the greatest so far, and that u+1 nodes told
abbrev pub is_more : ℕ → List ℕ → ℕ → ℕ → Bool
is_more u floors most g = nat_lt most g && many_at_least u floors g

-- the greatest floor of the first y nodes that u+1 nodes told
abbrev pub due_among : ℕ → List ℕ → ℕ → ℕ
due_among u floors zero = 0
due_among u floors (suc y) = if is_more u floors (due_among u floors y) (floor_at floors y) then floor_at floors y else due_among u floors y

-- the (u+1)-th largest of the floors
abbrev pub due : ℕ → List ℕ → ℕ
due u floors = due_among u floors (2 * u + 1)

-- the (u+1)-th largest floor that was told, where it is above the settled one
abbrev pub due_floor : ShimState → Option ℕ
due_floor s = if nat_lt s.floor (due s.faults s.floors) then Some (due s.faults s.floors) else None

-- u+1 nodes told this floor or a higher one, and of all floors that were told it is the greatest such one
pub record IsGreatestTold (s : ShimState) (floor : ℕ) : Type 0 where
  pub many : many_at_least s.faults s.floors floor ≡ true
  pub greatest : (y : ℕ) → y < 2 * s.faults + 1 → many_at_least s.faults s.floors (floor_at s.floors y) ≡ true → floor_at s.floors y ≤ floor

-- the 16 highest numbers that are kept, ascending, with their codes
abbrev pub highest : ShimState → List (ℕ × ℕ)
highest s = last 16 s.kept
