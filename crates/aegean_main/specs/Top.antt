-- What the top call does to its source and sinks, for each status.
use Rattle.std.specs.Prelude.{◌≡◌, ◌⊎◌, ℕ, ◌++◌, List, [], ◌∷◌, length, Option, codes}
use Rattle.aeg_io.specs.Bytes.{Gains, GainsFront}
use Rattle.server_model.specs.declared.history.Numbered.{Numbered}
use Rattle.server_model.specs.declared.history.Told.{Told}
use Rattle.server_model.specs.History.{Legal, told}
use Rattle.server_model.specs.Single.{booking_meaning, judgement, Reads, history_of, told_line, steps_line}
use Rattle.aegean_main.specs.Answer.{Answer}
use Rattle.aegean_main.specs.declared.status.LimitKind.TheVariants as limits
use Rattle.aegean_main.specs.declared.status.Status.{Status}
use Rattle.aegean_main.specs.declared.status.Status.TheVariants.{Done, Usage, Script, Plan, ReadFault, WriteFault, Limit, Illegal, Memory}

-- the command line is one word, `single` or `replay`
abbrev pub IsSingle : List (List ℕ) → Type 0
IsSingle words = words ≡ codes "single" ∷ []

abbrev pub IsReplay : List (List ℕ) → Type 0
IsReplay words = words ≡ codes "replay" ∷ []

abbrev pub IsCommand : List (List ℕ) → Type 0
IsCommand words = IsSingle words ⊎ IsReplay words

-- the status is the answer's and its whole text was written; but after a failing write or want of memory a front of it,
-- and after a failing read nothing
abbrev pub Follows : Answer → Option (List ℕ) → Option (List ℕ) → Status → Type 0
Follows answer old new ReadFault = new ≡ old
Follows answer old new WriteFault = GainsFront old new answer.text
Follows answer old new Memory = GainsFront old new answer.text
Follows answer old new status = (answer.status ≡ status) × Gains old new answer.text

-- with these statuses the output, or the disks, are left as they were, whatever the source tells
abbrev pub LeavesAlone : {A : Type 0} → Status → A → A → Type 0
LeavesAlone Usage old new = new ≡ old
LeavesAlone (Script line row) old new = new ≡ old
LeavesAlone (Plan row) old new = new ≡ old
LeavesAlone ReadFault old new = new ≡ old
LeavesAlone (Limit limits.Bytes) old new = new ≡ old
LeavesAlone (Limit limits.Lines) old new = new ≡ old
LeavesAlone (Limit limits.Packets) old new = Unit {0}
LeavesAlone Done old new = Unit {0}
LeavesAlone WriteFault old new = Unit {0}
LeavesAlone (Illegal line row) old new = Unit {0}
LeavesAlone Memory old new = Unit {0}

-- the lines that these tell
abbrev pub told_lines : List Told → List ℕ
told_lines [] = []
told_lines (x ∷ xs) = told_line x ++ told_lines xs

-- the input is a history of which no step is refused, and what it tells was written, and the line that counts its steps
abbrev pub TellsHistory : List ℕ → Option (List ℕ) → Option (List ℕ) → Type 0
TellsHistory input old new = (steps : List Numbered) × ((judgement input ≡ Reads steps) × (Legal booking_meaning (history_of steps)
    × Gains old new (told_lines (told booking_meaning (history_of steps)) ++ steps_line (length steps))))
