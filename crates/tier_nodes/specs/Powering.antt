-- What a crash, a restart and a wipe make of a node and its disk.
use Rattle.std.specs.Prelude.{◌≡◌, ℕ, ◌≤◌, Bool, false, List, [], length, nat_lt, ◌&&◌, if◌then◌else◌}
use Rattle.std.specs.declared.result.Result.{Result}
use Rattle.std.specs.declared.result.Result.TheVariants.{Ok, Err}
use Rattle.aeg_disk.specs.Disk.{DiskState, Rose}
use Rattle.log_model.specs.Log.{LogState}
use Rattle.log_model.specs.Nodes.{Node, stands, crashed, restarted}
use Rattle.log_model.specs.Nodes.Mode.{Gone}
use Rattle.log_values.specs.declared.any_value.AnyValue.{AnyValue}
use Rattle.log_values.specs.declared.fact.Fact.{Fact}
use Rattle.tier_model.specs.declared.turn.Fault.{Fault}
use Rattle.tier_model.specs.declared.turn.Fault.TheVariants as faults
use Rattle.run_model.specs.declared.trace.Found.{Found}
use Rattle.run_model.specs.declared.trace.Found.TheVariants.{Reads, Fault as Fails}
use Rattle.run_model.specs.World.{list_of}
use Rattle.tier_nodes.specs.Calling.{HadMemory, IsSameSeat}
use Rattle.tier_nodes.specs.Standing.{IsDiskOf, IsNodeOf, Seat}

-- A node that is up crashes. Whatever node it stands for, it stands for that one crashed.
pub record Crashes {S : Type 0} (log_in : S → LogState AnyValue) (old new : Seat S) : Type 0 where
  pub is : (node : Node S Fact) → IsNodeOf log_in node old → IsNodeOf log_in (crashed node node.mode) new
  pub on : (node : Node S Fact) (disk : DiskState) → IsNodeOf log_in node old → IsDiskOf node disk → IsDiskOf (crashed node node.mode) disk
  pub same : IsSameSeat old new

-- It is gone for good, and its disk, whichever node's it was, is blank.
pub record Wipes {S : Type 0} (log_in : S → LogState AnyValue) (old new : Seat S) (disk_before disk_after : DiskState) : Type 0 where
  pub is : IsNodeOf {S = S} log_in (stands Gone []) new
  pub on : (node : Node S Fact) → IsDiskOf node disk_before → IsDiskOf {S = S} (stands Gone []) disk_after
  pub faults : disk_after.faults ≡ disk_before.faults
  pub same : IsSameSeat old new

-- Which list a restart reads: where the node was in doubt and its journal is longer than it knew, the one with the
-- record more.
abbrev pub list_found : Bool → ℕ → ℕ → ℕ
list_found doubt known found = if doubt && nat_lt known found then 1 else 0

-- what a restart found, by its node's answer and the place of its journal before and after
abbrev pub found_of : {A : Type 0} → Bool → ℕ → ℕ → Result A Fault → Found
found_of doubt known found (Ok _) = Reads (list_found doubt known found)
found_of doubt known found (Err fault) = Fails

-- a node that came up is in no doubt
abbrev pub still_doubts : {A : Type 0} → Result A Fault → Bool → Bool
still_doubts (Ok _) doubt = false
still_doubts (Err fault) doubt = doubt

-- one of the lists that the disk stands for
abbrev pub IsAmong : List (List (List Fact)) → Found → Type 0
IsAmong others (Reads k) = k ≤ length others
IsAmong others Fails = Unit {0}

-- it came up, or its disk failed, which counted that
abbrev pub RoseOut : DiskState → DiskState → Result (Unit {0}) Fault → Type 0
RoseOut before after (Ok _) = Unit {0}
RoseOut before after (Err faults.Disk) = Rose before.faults after.faults
RoseOut before after (Err faults.Memory) = ⊥
RoseOut before after (Err (faults.JournalFull size)) = ⊥
RoseOut before after (Err (faults.BadRecord at)) = ⊥

-- node and disk are as a restart leaves them that found this
pub record Risen {S : Type 0} (log_in : S → LogState AnyValue) (recovered : List Fact → S) (new : Seat S) (disk_before disk_after : DiskState)
    (node : Node S Fact) (answer : Result (Unit {0}) Fault) (found : Found) : Type 0 where
  pub is : IsNodeOf log_in (restarted recovered node (list_of found) node.mode) new
  pub on : IsDiskOf (restarted recovered node (list_of found) node.mode) disk_after
  pub among : IsAmong node.others found
  pub out : RoseOut disk_before disk_after answer

-- A node that is down restarts under power. Whatever node it stands for, with its disk, it stands then for what a
-- restart makes of that one. Want of memory says nothing.
pub record Rises {S : Type 0} (log_in : S → LogState AnyValue) (recovered : List Fact → S) (old new : Seat S) (disk_before disk_after : DiskState)
    (answer : Result (Unit {0}) Fault) (found : Found) : Type 0 where
  pub risen : HadMemory answer → (node : Node S Fact) → IsNodeOf log_in node old → IsDiskOf node disk_before
      → Risen log_in recovered new disk_before disk_after node answer found
  pub reads : found ≡ found_of old.doubt old.view.place new.view.place answer
  pub later : disk_before.faults ≤ disk_after.faults
  pub same : IsSameSeat old new
