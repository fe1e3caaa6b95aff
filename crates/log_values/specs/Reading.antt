-- What a reader of code answers, against what stands at the front of the bytes.
use Rattle.std.specs.Prelude.{◌≡◌, ℕ, List, [], ◌∷◌, Option, Some, None, Result, Ok, Err, length, IsErr}
use Rattle.aeg_base.specs.declared.memory.Memory.{Memory}
use Rattle.svc_api.specs.declared.outcome.Outcome.{Outcome}
use Rattle.aeg_wire.specs.Fields.{Read}
use Rattle.log_values.specs.declared.misread.Misread.{Misread}
use Rattle.log_values.specs.declared.misread.Misread.TheVariants as misread

-- A reader gave, seen by view, what stands at the front, and left what is after it. It gave none where nothing does.
abbrev pub Found : {X A : Type 0} → (X → A) → Option X → List ℕ → Read A → Type 0
Found view (Some x) left read = read ≡ Some (view x, left)
Found view None left read = read ≡ None

abbrev pub Misses : {A : Type 0} → Misread → Read A → Type 0
Misses misread.Memory read = Unit {0}
Misses misread.Outside read = read ≡ None

-- The same of a reader that takes memory, unless it ran out.
abbrev pub Gives : {X A : Type 0} → (X → A) → Result X Misread → List ℕ → Read A → Type 0
Gives view (Ok x) left read = read ≡ Some (view x, left)
Gives view (Err e) left read = Misses e read

-- what is left after what was read
abbrev pub left_after : {A : Type 0} → Read A → Option (List ℕ)
left_after None = None
left_after (Some field) = Some field.1

-- A reader passed over what stands at the front. It answers none where nothing does.
abbrev pub Passes : {X A : Type 0} → Option X → List ℕ → Read A → Type 0
Passes (Some x) left read = left_after read ≡ Some left
Passes None left read = read ≡ None

-- how many there are, and what is left after them
abbrev pub counted : {A : Type 0} → Read (List A) → Option (ℕ × List ℕ)
counted None = None
counted (Some field) = Some (length field.0, field.1)

-- how many ends an outcome has, and what is left after it
abbrev pub counted_ends : Read Outcome → Option (ℕ × List ℕ)
counted_ends None = None
counted_ends (Some field) = Some (length field.0.ends, field.1)

-- A reader passed over what stands at the front, and counted it.
abbrev pub Counts : {A : Type 0} → (Read A → Option (ℕ × List ℕ)) → Option ℕ → List ℕ → Read A → Type 0
Counts count (Some n) left read = count read ≡ Some (n, left)
Counts count None left read = read ≡ None

-- what was read, where no byte is left after it
abbrev pub whole : {A : Type 0} → Read A → Option A
whole None = None
whole (Some field) = ended field.0 field.1
  where
    ended : {A : Type 0} → A → List ℕ → Option A
    ended x [] = Some x
    ended x (byte ∷ rest) = None

-- What is answered for all of the bytes: what was read where none is left, and none where nothing was or some are.
abbrev pub Ended : {A : Type 0} → Result A Misread → List ℕ → Result (Option A) Memory → Type 0
Ended (Ok x) [] answer = answer ≡ Ok (Some x)
Ended (Ok x) (byte ∷ rest) answer = answer ≡ Ok None
Ended (Err misread.Outside) left answer = answer ≡ Ok None
Ended (Err misread.Memory) left answer = IsErr answer

-- the bytes spell the value, which has a spelling
pub record Spells {A : Type 0} (fits : A → Type 0) (spelling : A → List ℕ) (bytes : List ℕ) (value : A) : Type 0 where
  pub fit : fits value
  pub parts : bytes ≡ spelling value
