-- What lines and texts are read as.
use Rattle.std.specs.Prelude.{◌≡◌, ℕ, Bool, ◌||◌, List, ◌++◌, Option, Some, None, codes}
use Rattle.std.specs.Str.{bytes_eq}
use Rattle.std.specs.declared.result.Result.{Result}
use Rattle.std.specs.declared.result.Result.TheVariants.{Ok, Err}
use Rattle.run_model.specs.declared.line.Event.{Event}
use Rattle.run_model.specs.Script.{Line, Bad, Does, Numbered, Header, Read, Reads, Fails, then_events}
use Rattle.net_script.specs.declared.header.Heading.{Heading}
use Rattle.net_script.specs.declared.refusal.LineErr.{LineErr}
use Rattle.net_script.specs.declared.refusal.LineErr.TheVariants as lines
use Rattle.net_script.specs.declared.refusal.ScriptErr.{ScriptErr}
use Rattle.net_script.specs.declared.refusal.ScriptErr.TheVariants as scripts

-- a line is this event, or the rule refuses it; nothing is said where memory was short
abbrev pub IsLine : Line → Result Event LineErr → Type 0
IsLine line (Ok event) = line ≡ Does event
IsLine line (Err (lines.Row row)) = line ≡ Bad row
IsLine line (Err lines.Memory) = Unit {0}

-- the words are a command's, and an event where they are right; or they are none's, which is rule 2
abbrev pub IsCommand : Option (Option Event) → Result (Option Event) LineErr → Type 0
IsCommand command (Ok event) = command ≡ Some event
IsCommand command (Err (lines.Row row)) = (command ≡ None) × (row ≡ 2)
IsCommand command (Err lines.Memory) = Unit {0}

-- the definition's header
abbrev pub header_of : Heading → Header
header_of h = record { u = h.u; depth = h.depth }

-- these events stand in front
abbrev pub after_events : List Numbered → Read (List Numbered) → Read (List Numbered)
after_events front (Reads events) = Reads (front ++ events)
after_events front (Fails line row) = Fails line row

-- a line was read: whatever the lines behind it are, its event stands in front of theirs, if it is one; or it is refused
abbrev pub ReadsLine : {A : Type 0} → ℕ → Line → List Numbered → List Numbered → Result A ScriptErr → Type 0
ReadsLine number line old new (Ok u) = (rest : Read (List Numbered)) → after_events old (then_events number line rest) ≡ after_events new rest
ReadsLine number line old new (Err (scripts.BadLine at row)) = (line ≡ Bad row) × (at ≡ number)
ReadsLine number line old new (Err scripts.Memory) = Unit {0}

-- what a text is read as: just this, or the first line that is refused, with its rule; nothing is said where memory was short
abbrev pub IsRead : {A : Type 0} → Read A → Result A ScriptErr → Type 0
IsRead read (Ok value) = read ≡ Reads value
IsRead read (Err (scripts.BadLine line row)) = read ≡ Fails line row
IsRead read (Err scripts.Memory) = Unit {0}

-- a command of a node's or a disk's power
abbrev pub is_power : List ℕ → Bool
is_power command = bytes_eq command (codes "cut")
    || (bytes_eq command (codes "crash") || (bytes_eq command (codes "restart") || bytes_eq command (codes "wipe")))
