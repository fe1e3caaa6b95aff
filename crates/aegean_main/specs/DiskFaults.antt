-- The faults that disks met in a run, and what they counted of them.
use Rattle.std.specs.Prelude.{◌≡◌, ℕ, ◌+◌, ◌-◌, ◌≤◌, ◌^◌, ◌==◌, ◌&&◌, min, Bool, false, List, [], ◌∷◌, Option, Some, None, slice_get, if◌then◌else◌}
use Rattle.aeg_disk.specs.Disk.{DiskState, Rose}
use Rattle.server_model.specs.Backends.{Amounts}
use Rattle.run_model.specs.BookingRuns.{BookingWorld}
use Rattle.run_model.specs.World.{Config, start}
use Rattle.run_model.specs.Text.{after}
use Rattle.run_model.specs.declared.trace.TraceEvent.{TraceEvent}
use Rattle.world.specs.Disks.{is_faulty, place_in}

-- the event happens at the disk with this place
abbrev pub is_place : ℕ → Option ℕ → Bool
is_place x None = false
is_place x (Some y) = x == y

-- the disk at x failed in the event
abbrev pub fails_at : BookingWorld → ℕ → TraceEvent → Bool
fails_at w x e = is_faulty e && is_place x (place_in w e)

-- in how many of the events it failed
abbrev pub faults_at : Config Amounts → BookingWorld → ℕ → List TraceEvent → ℕ
faults_at c w x [] = 0
faults_at c w x (e ∷ es) = (if fails_at w x e then 1 else 0) + faults_at c (after c w e) x es

-- the count of each disk rose by at least its faults in these events, or stands at its greatest value
abbrev pub CountsFaults : Config Amounts → List TraceEvent → List DiskState → List DiskState → Type 0
CountsFaults c es before after = (x : ℕ) (a b : DiskState) → slice_get before x ≡ Some a → slice_get after x ≡ Some b
    → min (a.faults + faults_at c start x es) (2 ^ 64 - 1) ≤ b.faults

-- no disk counted a fault
abbrev pub NoneRose : List DiskState → List DiskState → Type 0
NoneRose before after = (x : ℕ) (a b : DiskState) → slice_get before x ≡ Some a → slice_get after x ≡ Some b → Rose a.faults b.faults → ⊥
