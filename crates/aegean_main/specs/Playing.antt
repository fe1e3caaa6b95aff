-- A script's run as it is written, call by call.
use Rattle.std.specs.Prelude.{◌≡◌, ℕ, Bool, List, [], ◌∷◌, Option}
use Rattle.std.specs.declared.result.Result.{Result}
use Rattle.std.specs.declared.result.Result.TheVariants.{Ok, Err}
use Rattle.aeg_disk.specs.Disk.{DiskState}
use Rattle.aeg_io.specs.Bytes.{Gains, GainsFront}
use Rattle.run_model.specs.declared.line.Event.{Event}
use Rattle.run_model.specs.declared.trace.TraceEvent.{TraceEvent}
use Rattle.run_model.specs.Script.{Numbered, Script}
use Rattle.run_model.specs.Runs.{world}
use Rattle.run_model.specs.Standings.{IsBefore, IsSole}
use Rattle.world.specs.declared.stop.Stop.TheVariants as stops
use Rattle.world.specs.Disks.{NoneFell}
use Rattle.world.specs.Run.{Run, Applies}
use Rattle.aegean_main.specs.DiskFaults.{NoneRose}
use Rattle.aegean_main.specs.Replay.{tiers, events_text, whole_text, KeepsLimit, Ends, Overflows, Breaks, Leaves}
use Rattle.aegean_main.specs.declared.playing.Halt.{Halt}
use Rattle.aegean_main.specs.declared.playing.Halt.TheVariants as halts

-- ONE CALL

-- what is next for the line was done and what it prints was written, or a front of it where the write failed
abbrev pub PlaysNext : Run → Run → Event → List DiskState → List DiskState → Option (List ℕ) → Option (List ℕ) → Result Bool Halt → Type 0
PlaysNext old new line disks_before disks_after before now (Ok again) = (bytes : List ℕ)
    × Applies old new disks_before disks_after [] bytes line (Ok again) × Gains before now bytes
PlaysNext old new line disks_before disks_after before now (Err halts.Limit) = (bytes : List ℕ)
    × Applies old new disks_before disks_after [] bytes line (Err stops.Limit) × (now ≡ before)
PlaysNext old new line disks_before disks_after before now (Err halts.Write) = (bytes : List ℕ) × (again : Bool)
    × Applies old new disks_before disks_after [] bytes line (Ok again) × GainsFront before now bytes
PlaysNext old new line disks_before disks_after before now (Err halts.Memory) = now ≡ before

-- RUNS OF A SCRIPT

-- The disks are those of the world of these events, and no count fell. Where none rose, each of them stands for one list.
pub record DisksStand (script : Script) (es : List TraceEvent) (before now : List DiskState) : Type 0 where
  pub leaves : Leaves script es before now
  pub later : NoneFell before now
  pub sole : NoneRose before now → IsSole (world (tiers script) es)

-- the run stands before these lines, within the limit, and all that its events print was written since the start
pub record Stands (script : Script) (r : Run) (left : List Numbered) (disks_before disks_now : List DiskState) (start now : Option (List ℕ)) : Type 0 where
  pub u : r.u ≡ script.u
  pub depth : r.depth ≡ script.depth
  pub before : IsBefore (tiers script) script r.trace r.place left
  pub keeps : KeepsLimit script r.trace
  pub disks : DisksStand script r.trace disks_before disks_now
  pub written : Gains start now (events_text script r.trace)

-- Why the run goes no further. At the limit the text of its events was written, else a front of its text.
abbrev pub Halts : Script → List DiskState → List DiskState → Option (List ℕ) → Option (List ℕ) → Halt → Type 0
Halts script disks_before disks_now start now halts.Limit = (es : List TraceEvent) × Overflows script es
    × Leaves script es disks_before disks_now × Gains start now (events_text script es)
Halts script disks_before disks_now start now halts.Write = (b : Breaks script start now) × Leaves script b.events disks_before disks_now
Halts script disks_before disks_now start now halts.Memory = Breaks script start now

abbrev pub StandsOr : Script → Run → List Numbered → List DiskState → List DiskState → Option (List ℕ) → Option (List ℕ) → Result (Unit {0}) Halt → Type 0
StandsOr script new left disks_before disks_now start now (Ok done) = Stands script new left disks_before disks_now start now
StandsOr script new left disks_before disks_now start now (Err halt) = Halts script disks_before disks_now start now halt

-- a line was played: in whatever script and before whatever lines it stands
abbrev pub PlaysLine : Run → Run → Event → List DiskState → List DiskState → Option (List ℕ) → Option (List ℕ) → Result (Unit {0}) Halt → Type 0
PlaysLine old new line disks_before disks_after before now result = (script : Script) (number : ℕ)
    (rest : List Numbered) (disks_first : List DiskState) (start : Option (List ℕ))
    → Stands script old ((number, line) ∷ rest) disks_first disks_before start before → StandsOr script new rest disks_first disks_after start now result

-- the run came to its end and its whole text was written, or it halted
abbrev pub EndsOr : Script → List DiskState → List DiskState → Option (List ℕ) → Option (List ℕ) → Result (Unit {0}) Halt → Type 0
EndsOr script disks_before disks_now start now (Ok done) = (es : List TraceEvent) × Ends script es
    × Leaves script es disks_before disks_now × Gains start now (whole_text script es)
EndsOr script disks_before disks_now start now (Err halt) = Halts script disks_before disks_now start now halt

-- the closing lines were written, and the disks are as they were
abbrev pub Closes : Run → Option (List ℕ) → Option (List ℕ) → Result (Unit {0}) Halt → Type 0
Closes r before now result = (script : Script) (disks_before disks_now : List DiskState) (start : Option (List ℕ))
    → Stands script r [] disks_before disks_now start before → EndsOr script disks_before disks_now start now result
