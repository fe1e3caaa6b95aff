-- Scripts read by all their rules but the ninth.
--
-- The program doesn't know `work`, `calm`, `book` and `cancel` yet, and refuses a line that has them by rule 9. Worked runs
-- have them, so their lines are read here by the other rules alone.
use Rattle.std.proofs.Common.{◌≡◌, Bool, true, false, refl, sym, ap, ◌∙◌, ◌⊎◌, inl, inr}
use Rattle.std.specs.Prelude.{ℕ, ◌+◌, List, [], ◌∷◌, Option, None, Some, if◌then◌else◌}
use Rattle.server_model.specs.Words.{words_of}
use Rattle.server_model.specs.Single.{lines_of}
use Rattle.run_model.specs.Script.{Script, Header, Numbered, Line, Skips, Bad, Does, Read, Reads, Fails}
use Rattle.run_model.specs.Script.{is_blank, is_later, line_with, event_in, with_event, then_events, script_by, header_in, script_of}
use Rattle.run_model.specs.Script as now

abbrev pub line_in : ℕ → List (List ℕ) → Line
line_in u [] = Bad 2
line_in u (command ∷ words) = line_with u (event_in command words)

abbrev pub line_of : ℕ → List ℕ → Line
line_of u text = if is_blank text then Skips else line_in u (words_of text)

abbrev pub events_in : ℕ → ℕ → List (List ℕ) → Read (List Numbered)
events_in u number [] = Reads []
events_in u number (line ∷ lines) = then_events number (line_of u line) (events_in u (number + 1) lines)

abbrev pub headed : Option Header → ℕ → List (List ℕ) → Read Script
headed None number lines = Fails number 1
headed (Some header) number lines = script_by header (events_in header.u (number + 1) lines)

abbrev pub script_from : ℕ → List (List ℕ) → Read Script
script_from number [] = Fails number 1
script_from number (line ∷ lines) = if is_blank line then script_from (number + 1) lines else headed (header_in (words_of line)) number lines

abbrev pub later_script_of : List ℕ → Read Script
later_script_of input = script_from 1 (lines_of input)

-- WHAT IS READ NOW IS READ THE SAME

-- a line is refused by rule 9, or read the same
abbrev Same : Line → Line → Type 0
Same a b = (a ≡ Bad 9) ⊎ (a ≡ b)

same_in : (u : ℕ) (words : List (List ℕ)) → Same (now.line_in u words) (line_in u words)
same_in u [] = inr refl
same_in u (command ∷ words) = either (is_later command words)
  where
    either : (later : Bool) → Same (if later then Bad 9 else line_with u (event_in command words)) (line_with u (event_in command words))
    either true = inl refl
    either false = inr refl

same_line : (u : ℕ) (text : List ℕ) → Same (now.line_of u text) (line_of u text)
same_line u text = either (is_blank text)
  where
    either : (blank : Bool) → Same (if blank then Skips else now.line_in u (words_of text)) (if blank then Skips else line_in u (words_of text))
    either true = inr refl
    either false = same_in u (words_of text)

-- what one reads the other reads too
abbrev ReadsToo : {A : Type 0} → Read A → Read A → Type 0
ReadsToo {A} a b = (value : A) → a ≡ Reads value → b ≡ Reads value

with_too : (e : Numbered) (a b : Read (List Numbered)) → ReadsToo a b → ReadsToo (with_event e a) (with_event e b)
with_too e (Reads events) b h value r = ap (λ z. with_event e z) (h events refl) ∙ r
with_too e (Fails line row) b h value r = absurd (cc)

then_too : (number : ℕ) (line : Line) (a b : Read (List Numbered)) → ReadsToo a b → ReadsToo (then_events number line a) (then_events number line b)
then_too number Skips a b h value r = h value r
then_too number (Bad row) a b h value r = absurd (cc)
then_too number (Does event) a b h value r = with_too (number, event) a b h value r

lines_too : (number : ℕ) (x y : Line) (a b : Read (List Numbered)) → Same x y → ReadsToo a b → ReadsToo (then_events number x a) (then_events number y b)
lines_too number x y a b (inl e) h value r = let bad : Fails number 9 ≡ Reads value = sym (ap (λ z. then_events number z a) e) ∙ r in absurd (cc)
lines_too number x y a b (inr e) h value r = then_too number y a b h value (sym (ap (λ z. then_events number z a) e) ∙ r)

events_too : (u number : ℕ) (lines : List (List ℕ)) → ReadsToo (now.events_in u number lines) (events_in u number lines)
events_too u number [] value r = r
events_too u number (line ∷ lines) value r =
    lines_too number (now.line_of u line) (line_of u line) (now.events_in u (number + 1) lines) (events_in u (number + 1) lines)
    (same_line u line) (events_too u (number + 1) lines) value r

by_too : (header : Header) (a b : Read (List Numbered)) → ReadsToo a b → ReadsToo (script_by header a) (script_by header b)
by_too header (Reads events) b h value r = ap (λ z. script_by header z) (h events refl) ∙ r
by_too header (Fails line row) b h value r = absurd (cc)

headed_too : (header : Option Header) (number : ℕ) (lines : List (List ℕ)) → ReadsToo (now.headed header number lines) (headed header number lines)
headed_too None number lines value r = r
headed_too (Some header) number lines value r =
    by_too header (now.events_in header.u (number + 1) lines) (events_in header.u (number + 1) lines) (events_too header.u (number + 1) lines) value r

from_too : (number : ℕ) (lines : List (List ℕ)) → ReadsToo (now.script_from number lines) (script_from number lines)
from_too number [] value r = r
from_too number (line ∷ lines) value r = either (is_blank line) (from_too (number + 1) lines) value r
  where
    either : (blank : Bool) → ReadsToo (now.script_from (number + 1) lines) (script_from (number + 1) lines)
        → ReadsToo (if blank then now.script_from (number + 1) lines else now.headed (header_in (words_of line)) number lines)
        (if blank then script_from (number + 1) lines else headed (header_in (words_of line)) number lines)
    either true h = h
    either false h = headed_too (header_in (words_of line)) number lines

pub read_the_same : (input : List ℕ) (script : Script) → script_of input ≡ Reads script → later_script_of input ≡ Reads script
read_the_same input script r = from_too 1 (lines_of input) script r
