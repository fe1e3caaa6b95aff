-- How a run goes on, event by event, with its parts.
use Rattle.std.specs.Prelude.{◌≡◌, ℕ, Bool, true, false, List, ◌++◌, map, Option, Some, None}
use Rattle.std.specs.declared.result.Result.{Result}
use Rattle.std.specs.declared.result.Result.TheVariants.{Ok, Err}
use Rattle.aeg_base.specs.declared.names.NodeId.{NodeId}
use Rattle.run_model.specs.BookingRuns.{config}
use Rattle.run_model.specs.Text.{text_from}
use Rattle.run_model.specs.declared.trace.Found.TheVariants.{Reads}
use Rattle.run_model.specs.declared.trace.TraceEvent.TheVariants.{Restart}
use Rattle.run_model.specs.declared.line.Event.{Event}
use Rattle.run_model.specs.declared.line.Event.TheVariants as lines
use Rattle.run_model.specs.declared.trace.TraceEvent.{TraceEvent}
use Rattle.run_model.specs.Resolving.{Place, AllBecome, AllFind}
use Rattle.run_model.specs.Resolving.Phase.{Flows}
use Rattle.world.specs.declared.progress.Progress.{Progress}
use Rattle.world.specs.declared.stop.Stop.{Stop}
use Rattle.world.specs.declared.stop.Stop.TheVariants as stops
use Rattle.aeg_disk.specs.Disk.{DiskState}
use Rattle.world.specs.Disks.{AreDisks, AllCaused, NoneFell}
use Rattle.world.specs.Run.{Run, world_of, turn_of, MakesEvent, Applies}
use Rattle.world.specs.Standing.{Shows}

abbrev pub place_at : ℕ → Place
place_at cursor = record { cursor = cursor; phase = Flows }

-- what is known of it, and whether its world has ended
abbrev pub run_with : Bool → Progress → Run
run_with ended p = record { u = p.parts.u; depth = p.depth; trace = p.trace; place = place_at p.cursor; has_ended = ended }

-- of one that goes on
abbrev pub run_of : Progress → Run
run_of p = run_with false p

-- the parts are as its events left them
abbrev pub IsInStep : Progress → Type 0
IsInStep p = Shows p.parts.u p.depth (world_of (run_of p)) p.parts

-- and the disks are the world's
abbrev pub StandsOn : Progress → List DiskState → Type 0
StandsOn p disks = IsInStep p × AreDisks (world_of (run_of p)) disks

-- the event that was due was made, or what it became, and the run is in step with it
abbrev pub Adds : Progress → Progress → List DiskState → List DiskState → List ℕ → List ℕ → TraceEvent → Place → Type 0
Adds old new disks_before disks_after before now due place = IsInStep new × MakesEvent (run_of old) (run_of new) disks_before disks_after before now due place

-- the event of a line's turn
abbrev pub AddsSome : Progress → Progress → List DiskState → List DiskState → List ℕ → List ℕ → Option TraceEvent → Place → Type 0
AddsSome old new disks_before disks_after before now None place = ⊥
AddsSome old new disks_before disks_after before now (Some due) place = Adds old new disks_before disks_after before now due place

abbrev pub AddsLine : Progress → Progress → List DiskState → List DiskState → List ℕ → List ℕ → Event → Type 0
AddsLine old new disks_before disks_after before now line = AddsSome old new disks_before disks_after before now
    (turn_of (run_of old) line).event (turn_of (run_of old) line).place

-- the line is one event of those that are made here
abbrev pub is_one : Event → Bool
is_one (lines.Submit client body) = true
is_one (lines.Deliver packet) = true
is_one (lines.Short packet bytes) = true
is_one (lines.Cut nth keep line) = true
is_one (lines.Lead n) = true
is_one (lines.Offer n) = true
is_one (lines.Retry end) = true
is_one (lines.Work n by) = false
is_one (lines.Crash n) = true
is_one (lines.Restart n) = true
is_one (lines.Wipe n) = true
is_one lines.Flow = false
is_one lines.Calm = false
is_one lines.Lose = false

-- what want of memory leaves is not said
abbrev pub StaysInStep : Progress → Result Bool Stop → Type 0
StaysInStep p (Ok again) = IsInStep p
StaysInStep p (Err stops.Limit) = IsInStep p
StaysInStep p (Err stops.Memory) = Unit {0}

-- a call with this line
abbrev pub GoesBy : Progress → Progress → List DiskState → List DiskState → List ℕ → List ℕ → Event → Result Bool Stop → Type 0
GoesBy old new disks_before disks_after before now line result = Applies (run_of old) (run_of new) disks_before
    disks_after before now line result × StaysInStep new result

-- RESTARTS

-- These nodes were restarted, one after another: each of these events became of its restart.
pub record Restarted (old new : Progress) (disks_before disks_after : List DiskState) (before now : List ℕ) (nodes : List NodeId) : Type 0 where
  pub events : List TraceEvent
  pub become : AllBecome (map (λ n. Restart n (Reads 0)) nodes) events
  pub finds : AllFind (config old.parts.u old.depth) (world_of (run_of old)) events
  pub run : run_of new ≡ record (run_of old) { trace = (run_of old).trace ++ events }
  pub told : now ≡ before ++ text_from (config old.parts.u old.depth) (world_of (run_of old)) events
  pub causes : AllCaused disks_before disks_after events
  pub later : NoneFell disks_before disks_after
  pub stands : StandsOn new disks_after
