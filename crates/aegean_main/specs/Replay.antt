-- What `replay` answers: how an input ends, what is written of its run, and what its disks hold then.
use Rattle.std.specs.Prelude.{◌≡◌, ◌⊎◌, ℕ, ◌<◌, ◌≤◌, ◌++◌, true, List, [], length, Option, Some}
use Rattle.aeg_base.specs.declared.limits.TheConstants.{INPUT_BYTES, INPUT_LINES, PACKETS_BEFORE}
use Rattle.aeg_disk.specs.Disk.{DiskState}
use Rattle.aeg_io.specs.Bytes.{Gains, GainsFront}
use Rattle.server_model.specs.Backends.{Amounts}
use Rattle.server_model.specs.Single.{lines_of}
use Rattle.run_model.specs.BookingRuns.{config}
use Rattle.run_model.specs.World.{Config, start}
use Rattle.run_model.specs.Runs.{world}
use Rattle.run_model.specs.Script.{Script, Reads, Fails, script_of}
use Rattle.run_model.specs.Text.{text, closing}
use Rattle.run_model.specs.Resolving.{Standing, Due, next, AllSure, Reaches, Resolves}
use Rattle.run_model.specs.Standings.{keeps_limit}
use Rattle.run_model.specs.declared.trace.TraceEvent.{TraceEvent}
use Rattle.world.specs.Disks.{AreDisks}
use Rattle.aegean_main.specs.DiskFaults.{CountsFaults, NoneRose}
use Rattle.aegean_main.specs.Headline.{Keeps}
use Rattle.aegean_main.specs.declared.status.LimitKind.TheVariants as limits
use Rattle.aegean_main.specs.declared.status.Status.{Status}
use Rattle.aegean_main.specs.declared.status.Status.TheVariants as statuses

-- INPUTS

-- no more bytes and lines than the limits
pub record IsWithin (input : List ℕ) : Type 0 where
  pub bytes : length input ≤ INPUT_BYTES
  pub lines : length (lines_of input) ≤ INPUT_LINES

-- the input is this script
abbrev pub ReadsAs : List ℕ → Script → Type 0
ReadsAs input script = IsWithin input × (script_of input ≡ Reads script)

-- RUNS

-- the booking service in tiers of the script's size
abbrev pub tiers : Script → Config Amounts
tiers script = config script.u script.depth

-- what these events print
abbrev pub events_text : Script → List TraceEvent → List ℕ
events_text script es = text (tiers script) es

-- and the closing lines behind it
abbrev pub whole_text : Script → List TraceEvent → List ℕ
whole_text script es = events_text script es ++ closing (world (tiers script) es)

-- each of the events begins with no more packets than the limit
abbrev pub KeepsLimit : Script → List TraceEvent → Type 0
KeepsLimit script es = keeps_limit (tiers script) start es ≡ true

-- the script comes to these events, within the limit
abbrev pub Ends : Script → List TraceEvent → Type 0
Ends script es = Resolves (tiers script) script es × KeepsLimit script es

-- The run has made these events within the limit; another is next, and more packets than the limit were sent.
pub record Overflows (script : Script) (es : List TraceEvent) : Type 0 where
  pub standing : Standing Amounts
  pub reached : Reaches (tiers script) script es standing
  pub due : Due
  pub keeps : KeepsLimit script es
  pub is_next : next (tiers script) standing ≡ Some due
  pub many : PACKETS_BEFORE < length standing.world.soup

-- The run has made these events so far, within the limit, and this is their text; or they are all, and the closing lines are there too.
abbrev pub IsTextOf : Script → List TraceEvent → List ℕ → Type 0
IsTextOf script es bytes = ((t : Standing Amounts) × Reaches (tiers script) script es t × KeepsLimit script es
    × (bytes ≡ events_text script es)) ⊎ (Ends script es × (bytes ≡ whole_text script es))

-- a front of the text of a run of the script was written
pub record Breaks (script : Script) (old new : Option (List ℕ)) : Type 0 where
  pub events : List TraceEvent
  pub bytes : List ℕ
  pub is_text : IsTextOf script events bytes
  pub front : GainsFront old new bytes

-- DISKS

-- The disks after these events of a script's run are those of its world, and each has counted the faults that it met. Where
-- none counted one, no event had a fault, and each restart found the one list that its disk stood for.
pub record Leaves (script : Script) (es : List TraceEvent) (before after : List DiskState) : Type 0 where
  pub disks : AreDisks (world (tiers script) es) after
  pub counted : CountsFaults (tiers script) es before after
  pub sure : NoneRose before after → AllSure es

-- without a fault these events are the only ones that the script comes to
abbrev pub IsOnlyRun : Script → List TraceEvent → Type 0
IsOnlyRun script es = AllSure es → (others : List TraceEvent) → Resolves (tiers script) script others → AllSure others → others ≡ es

-- without a fault the run of the script begins with these events
abbrev pub BeginsRun : Script → List TraceEvent → Type 0
BeginsRun script es = AllSure es → (others : List TraceEvent) → Resolves (tiers script) script others → AllSure others
    → (rest : List TraceEvent) × (others ≡ es ++ rest)

-- HOW AN INPUT ENDS

-- the run of a script that comes to its end, and its whole text
pub record Plays (input bytes : List ℕ) (before after : List DiskState) : Type 0 where
  pub script : Script
  pub events : List TraceEvent
  pub reads : ReadsAs input script
  pub ends : Ends script events
  pub is_text : bytes ≡ whole_text script events
  pub keeps : Keeps script.u script.depth events
  pub leaves : Leaves script events before after
  pub only : IsOnlyRun script events

-- the run of a script that passes the limit on packets, and the text of its events
pub record Fills (input bytes : List ℕ) (before after : List DiskState) : Type 0 where
  pub script : Script
  pub events : List TraceEvent
  pub reads : ReadsAs input script
  pub overflows : Overflows script events
  pub is_text : bytes ≡ events_text script events
  pub keeps : Keeps script.u script.depth events
  pub leaves : Leaves script events before after
  pub begins : BeginsRun script events

-- The status that the input has, all that is written then, and the disks. The limits on bytes and lines come first, then the
-- grammar of the whole input, then the run.
abbrev pub Comes : List ℕ → List DiskState → List DiskState → Status → List ℕ → Type 0
Comes input before after statuses.Done bytes = Plays input bytes before after
Comes input before after (statuses.Limit limits.Packets) bytes = Fills input bytes before after
Comes input before after (statuses.Limit limits.Bytes) bytes = (INPUT_BYTES < length input) × (bytes ≡ [])
Comes input before after (statuses.Limit limits.Lines) bytes = (length input ≤ INPUT_BYTES) × (INPUT_LINES < length (lines_of input)) × (bytes ≡ [])
Comes input before after (statuses.Script line row) bytes = IsWithin input × (script_of input ≡ Fails line row) × (bytes ≡ [])
Comes input before after statuses.Usage bytes = ⊥
Comes input before after (statuses.Plan row) bytes = ⊥
Comes input before after statuses.ReadFault bytes = ⊥
Comes input before after statuses.WriteFault bytes = ⊥
Comes input before after (statuses.Illegal line row) bytes = ⊥
Comes input before after statuses.Memory bytes = ⊥

-- WHAT A CALL DOES

-- a front of the text of a run of the input's script was written
pub record BreaksOff (input : List ℕ) (old new : Option (List ℕ)) : Type 0 where
  pub script : Script
  pub reads : ReadsAs input script
  pub breaks : Breaks script old new
  pub keeps : Keeps script.u script.depth breaks.events

-- and the disks are those of its events
pub record BreaksAt (input : List ℕ) (before after : List DiskState) (old new : Option (List ℕ)) : Type 0 where
  pub run : BreaksOff input old new
  pub leaves : Leaves run.script run.breaks.events before after

-- the input has this status, and all its text was written
abbrev pub Writes : List ℕ → List DiskState → List DiskState → Option (List ℕ) → Option (List ℕ) → Status → Type 0
Writes input before after old new status = (bytes : List ℕ) × Comes input before after status bytes × Gains old new bytes

-- After a failing read nothing was written, after a failing write a front of the text, and for want of memory a front of it or
-- nothing; what the disks hold then is not said. Else the status is the input's, and its text was written.
abbrev pub Answers : List ℕ → List DiskState → List DiskState → Option (List ℕ) → Option (List ℕ) → Status → Type 0
Answers input before after old new statuses.ReadFault = new ≡ old
Answers input before after old new statuses.WriteFault = BreaksAt input before after old new
Answers input before after old new statuses.Memory = BreaksOff input old new ⊎ (new ≡ old)
Answers input before after old new status = Writes input before after old new status

-- the input is a script, all of its run was written, and the run keeps what every run keeps
abbrev pub PlaysOut : List ℕ → List DiskState → List DiskState → Option (List ℕ) → Option (List ℕ) → Type 0
PlaysOut input before after old new = (bytes : List ℕ) × Plays input bytes before after × Gains old new bytes

-- the input's own status, or want of memory
abbrev pub IsItsOwn : List ℕ → List DiskState → List DiskState → Status → Type 0
IsItsOwn input before after status = ((bytes : List ℕ) × Comes input before after status bytes) ⊎ (status ≡ statuses.Memory)

-- where no disk counted a fault, the status is the one that the input has on all such disks, or want of memory
abbrev pub IsTheStatus : List ℕ → List DiskState → List DiskState → Status → Type 0
IsTheStatus input before after status = NoneRose before after
    → (other : Status) (bytes : List ℕ) (later : List DiskState) → NoneRose before later
    → Comes input before later other bytes → (status ≡ other) ⊎ (status ≡ statuses.Memory)
