-- The steps of lines, made one after another as they are read.
use Rattle.std.specs.Prelude.{◌≡◌, ℕ, ◌+◌, ◌++◌, List, [], ◌∷◌, Option, None, Some}
use Rattle.std.specs.declared.result.Result.{Result}
use Rattle.std.specs.declared.result.Result.TheVariants.{Ok, Err}
use Rattle.server_model.specs.Backends.{Amounts}
use Rattle.server_model.specs.Server.{Server, step}
use Rattle.server_model.specs.Single.{booking_meaning, Line, Skips, Bad, Steps, line_of, Judged, Fails, judged, Outcome, goes_on_with}
use Rattle.aegean_main.specs.Answer.{Answer}
use Rattle.aegean_main.specs.Counting.{steps_in, counted}
use Rattle.aegean_main.specs.declared.run.LineErr.{LineErr}
use Rattle.aegean_main.specs.declared.run.LineErr.TheVariants as lines
use Rattle.aegean_main.specs.declared.run.RunErr.{RunErr}
use Rattle.aegean_main.specs.declared.run.RunErr.TheVariants as runs
use Rattle.aegean_main.specs.declared.run.Telling.{Telling}
use Rattle.aegean_main.specs.declared.status.Status.TheVariants.{Done, Illegal}

-- what a line does, and what the lines behind it do then
abbrev pub line_run : Line → ℕ → (Server Amounts → Outcome) → Server Amounts → Outcome
line_run Skips number rest s = rest s
line_run (Bad row) number rest s = record { text = []; refused = Some (number, row) }
line_run (Steps hist body) number rest s = goes_on_with (step booking_meaning s hist body) number rest

-- what the lines tell up to the first that is refused, and its number and row
abbrev pub run_lines : ℕ → List (List ℕ) → Server Amounts → Outcome
run_lines number [] s = record { text = []; refused = None }
run_lines number (line ∷ lines) s = line_run (line_of line) number (run_lines (number + 1) lines) s

-- the line is so many steps, whatever is behind it
abbrev pub IsSteps : ℕ → Line → Type 0
IsSteps count line = (number : ℕ) (rest : Judged) → steps_in (judged number line rest) ≡ counted count (steps_in rest)

-- a line was run: what it told was added, and the lines behind it go on from the new server
abbrev pub GoesOn : Line → Server Amounts → Server Amounts → List ℕ → List ℕ → Type 0
GoesOn line old new old_text new_text = (number : ℕ) (rest : Server Amounts → Outcome) →
    (old_text ++ (line_run line number rest old).text ≡ new_text ++ (rest new).text) × ((line_run line number rest old).refused ≡ (rest new).refused)

-- the step of a line is refused by this row
abbrev pub IsRefused : Line → Server Amounts → ℕ → Type 0
IsRefused line old row = (number : ℕ) (rest : Server Amounts → Outcome) → line_run line number rest old ≡ record { text = []; refused = Some (number, row) }

-- a line was run, or is bad, or its step is refused and nothing was told
abbrev pub TakesLine : Line → Server Amounts → Server Amounts → List ℕ → List ℕ → Result ℕ LineErr → Type 0
TakesLine line old new old_text new_text (Ok count) = IsSteps count line × GoesOn line old new old_text new_text
TakesLine line old new old_text new_text (Err (lines.Bad row)) = line ≡ Bad row
TakesLine line old new old_text new_text (Err (lines.Illegal row)) = IsSteps 1 line × (IsRefused line old row × (new_text ≡ old_text))
TakesLine line old new old_text new_text (Err lines.Memory) = Unit {0}

-- the answer by what was told and the step that was refused
abbrev pub told_with : List ℕ → Option (ℕ × ℕ) → Answer
told_with text None = record { status = Done; text = text }
told_with text (Some at) = record { status = Illegal at.0 at.1; text = text }

-- where an input has no text for a bad line, that is its first
abbrev pub IsBadLine : Judged → RunErr → Type 0
IsBadLine judged (runs.Bad bad) = judged ≡ Fails bad.line bad.row
IsBadLine judged runs.Memory = Unit {0}

-- the steps end at a refused one, where no line behind it is bad
abbrev pub Stops : Judged → List ℕ → ℕ → ℕ → Result Telling RunErr → Type 0
Stops behind text line row (Ok telling) = (count : ℕ) × ((steps_in behind ≡ Ok count) × ((telling.text.items ≡ text) × (telling.refused ≡ Some (line, row))))
Stops behind text line row (Err (runs.Bad bad)) = behind ≡ Fails bad.line bad.row
Stops behind text line row (Err runs.Memory) = ⊥
