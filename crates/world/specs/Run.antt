-- What contracts see of a world: the events that it has made, and where it stands in a script. What its calls do.
use Rattle.std.specs.Prelude.{◌≡◌, ℕ, ◌≤◌, ◌<◌, Bool, true, false, List, [], ◌∷◌, ◌++◌, length, Option, Some, None}
use Rattle.std.specs.declared.result.Result.{Result}
use Rattle.std.specs.declared.result.Result.TheVariants.{Ok, Err}
use Rattle.aeg_base.specs.declared.limits.TheConstants.{PACKETS, PACKETS_BEFORE}
use Rattle.run_model.specs.declared.line.Event.{Event}
use Rattle.run_model.specs.declared.trace.TraceEvent.{TraceEvent}
use Rattle.run_model.specs.World.{start}
use Rattle.run_model.specs.Runs.{world}
use Rattle.run_model.specs.Text.{event_text, text, closing}
use Rattle.run_model.specs.Resolving.{Place, Turned, turn, goes_on, Becomes, AllBecome, Finds, AllFind, starts, first_place}
use Rattle.aeg_disk.specs.Disk.{DiskState}
use Rattle.world.specs.Disks.{AreDisks, HasCause, AllCaused, NoneFell}
use Rattle.world.specs.declared.stop.Stop.{Stop}
use Rattle.world.specs.declared.stop.Stop.TheVariants as stops
use Rattle.run_model.specs.BookingRuns.{config, BookingWorld}

-- It is known by the list of the events that were made. It has ended once a call wanted memory.
pub record Run : Type 0 where
  pub u : ℕ
  pub depth : ℕ
  pub trace : List TraceEvent
  pub place : Place
  pub has_ended : Bool

-- the world after these events
abbrev pub world_of : Run → BookingWorld
world_of r = world (config r.u r.depth) r.trace

abbrev pub new_run : ℕ → ℕ → Run
new_run u depth = record { u = u; depth = depth; trace = []; place = first_place; has_ended = false }

abbrev pub at_place : Run → Place → Run
at_place r place = record { u = r.u; depth = r.depth; trace = r.trace; place = place; has_ended = r.has_ended }

-- one event more
abbrev pub with_event : Run → TraceEvent → Place → Run
with_event r event place = record { u = r.u; depth = r.depth; trace = r.trace ++ event ∷ []; place = place; has_ended = r.has_ended }

-- the line's turn now
abbrev pub turn_of : Run → Event → Turned
turn_of r line = turn (config r.u r.depth) (world_of r) r.place line

-- what the event prints
abbrev pub text_of : Run → TraceEvent → List ℕ
text_of r event = event_text (config r.u r.depth) (world_of r) event

-- STARTING

-- Each node was restarted in its turn, and what these events print was added. The disks are those of the world then.
pub record Starts (old new : Run) (disks_before disks_after : List DiskState) (before now : List ℕ) : Type 0 where
  pub become : AllBecome (starts old.u) new.trace
  pub finds : AllFind (config old.u old.depth) start new.trace
  pub run : new ≡ record old { trace = new.trace }
  pub told : now ≡ before ++ text (config old.u old.depth) new.trace
  pub disks : AreDisks (world_of new) disks_after
  pub causes : AllCaused disks_before disks_after new.trace
  pub later : NoneFell disks_before disks_after

-- LINES

-- What was due at the line was made, or what it became by a fault of its disk. What it prints was added, and the disks are
-- those of the world then.
pub record MakesEvent (old new : Run) (disks_before disks_after : List DiskState) (before now : List ℕ) (due : TraceEvent) (place : Place) : Type 0 where
  pub event : TraceEvent
  pub becomes : Becomes due event
  pub finds : Finds (world_of old) event
  pub cause : HasCause (world_of old) disks_before disks_after event
  pub later : NoneFell disks_before disks_after
  pub run : new ≡ with_event old event place
  pub told : now ≡ before ++ text_of old event
  pub disks : AreDisks (world_of new) disks_after

-- An event begins only where no more packets than the limit were sent; else nothing is changed. Want of memory says nothing.
abbrev pub AppliesEvent : Run → Run → List DiskState → List DiskState → List ℕ → List ℕ → Event → Place → TraceEvent → Result Bool Stop → Type 0
AppliesEvent old new disks_before disks_after before now line place due (Ok again) = (length
    (world_of old).soup ≤ PACKETS_BEFORE) × MakesEvent old new disks_before disks_after before now due place
    × (again ≡ goes_on line)
AppliesEvent old new disks_before disks_after before now line place due (Err stops.Limit) = (PACKETS_BEFORE < length
    (world_of old).soup) × (new ≡ old) × (disks_after ≡ disks_before) × (now ≡ before)
AppliesEvent old new disks_before disks_after before now line place due (Err stops.Memory) = Unit {0}

-- nothing is left to do for the line
abbrev pub AppliesNothing : Run → Run → List DiskState → List DiskState → List ℕ → List ℕ → Place → Result Bool Stop → Type 0
AppliesNothing old new disks_before disks_after before now place (Ok again) = (new ≡ at_place old place)
    × (disks_after ≡ disks_before) × (now ≡ before) × (again ≡ false)
AppliesNothing old new disks_before disks_after before now place (Err stops.Limit) = ⊥
AppliesNothing old new disks_before disks_after before now place (Err stops.Memory) = Unit {0}

abbrev pub AppliesBy : Run → Run → List DiskState → List DiskState → List ℕ → List ℕ → Event → Place → Option TraceEvent → Result Bool Stop → Type 0
AppliesBy old new disks_before disks_after before now line place None answer = AppliesNothing old new disks_before disks_after before now place answer
AppliesBy old new disks_before disks_after before now line place (Some due) answer = AppliesEvent old new disks_before
    disks_after before now line place due answer

-- a call of `apply` with this line
abbrev pub Applies : Run → Run → List DiskState → List DiskState → List ℕ → List ℕ → Event → Result Bool Stop → Type 0
Applies old new disks_before disks_after before now line answer = AppliesBy old new disks_before disks_after before now
    line (turn_of old line).place (turn_of old line).event answer

-- the closing lines
abbrev pub closing_of : Run → List ℕ
closing_of r = closing (world_of r)

-- where more may be left of a line, `flow` has come further, and not past the last packet that there can be
abbrev pub ComesFurther : {E : Type 0} → Run → Run → Result Bool E → Type 0
ComesFurther old new (Ok true) = (old.place.cursor < new.place.cursor) × (new.place.cursor ≤ PACKETS)
ComesFurther old new (Ok false) = Unit {0}
ComesFurther old new (Err stop) = Unit {0}
