-- What a call of a node makes of it, of its disk and of the packets.
use Rattle.std.specs.Prelude.{◌≡◌, ℕ, ◌-◌, ◌^◌, ◌≤◌, min, Bool, true, false, List, ◌++◌, IfSome, Option}
use Rattle.std.specs.declared.result.Result.{Result}
use Rattle.std.specs.declared.result.Result.TheVariants.{Ok, Err}
use Rattle.aeg_base.specs.declared.names.End.{End}
use Rattle.aeg_disk.specs.Disk.{DiskState, Rose}
use Rattle.fact_journal.specs.Calls.{is_past, length_with}
use Rattle.log_model.specs.Log.{LogState}
use Rattle.log_model.specs.Nodes.{Node, Device, is_well, moved, sent}
use Rattle.log_model.specs.Nodes.Device.{Fine}
use Rattle.log_model.specs.Nodes.Mode.{Up}
use Rattle.log_values.specs.declared.any_value.AnyValue.{AnyValue}
use Rattle.log_values.specs.declared.fact.Fact.{Fact}
use Rattle.tier_model.specs.declared.turn.Turn.{Turn as Answer}
use Rattle.tier_model.specs.declared.turn.Fault.{Fault}
use Rattle.tier_model.specs.declared.turn.Fault.TheVariants as faults
use Rattle.tier_model.specs.Moves.{Move}
use Rattle.run_model.specs.declared.trace.Fared.{Fared}
use Rattle.run_model.specs.World.{can_fare}
use Rattle.node_log.specs.Packets.{all_sealed}
use Rattle.tier_nodes.specs.declared.arming.StopAt.{StopAt}
use Rattle.tier_nodes.specs.Arming.{FaresAs, asked_of, fate_of, is_fault}
use Rattle.tier_nodes.specs.Moving.{IsMoveOf}
use Rattle.tier_nodes.specs.Standing.{IsDiskOf, IsNodeOf, Seat, journal_of}

abbrev pub HadMemory : {A : Type 0} → Result A Fault → Type 0
HadMemory (Ok answer) = Unit {0}
HadMemory (Err faults.Memory) = ⊥
HadMemory (Err faults.Disk) = Unit {0}
HadMemory (Err (faults.JournalFull size)) = Unit {0}
HadMemory (Err (faults.BadRecord at)) = Unit {0}

-- it made its move, or its journal would have passed its limit, or its disk stopped or failed as the facts were written
abbrev pub CameOut : {S : Type 0} → Result Answer Fault → Bool → List (List Fact) → Move S → Type 0
CameOut (Ok answer) well records move = (well ≡ true) × (answer ≡ move.answer)
CameOut (Err (faults.JournalFull size)) well records move = (well ≡ false) × (is_past (journal_of records) move.facts ≡ true)
    × (size ≡ min (length_with (journal_of records) move.facts) (2 ^ 64 - 1))
CameOut (Err faults.Disk) well records move = (well ≡ false) × (is_past (journal_of records) move.facts ≡ false)
CameOut (Err faults.Memory) well records move = ⊥
CameOut (Err (faults.BadRecord at)) well records move = ⊥

-- Node and disk are as the move leaves them, as the device fared. It sent what the move sends then, behind what was
-- there.
pub record Came {S : Type 0} (log_in : S → LogState AnyValue) (new : Seat S) (disk : DiskState) (before after : List (End × List ℕ))
    (node : Node S Fact) (device : Device) (move : Move S) (answer : Result Answer Fault) : Type 0 where
  pub is : IsNodeOf log_in (moved node device move.state move.facts) new
  pub on : IsDiskOf (moved node device move.state move.facts) disk
  pub sends : after ≡ before ++ all_sealed (sent device move.facts move.sends)
  pub out : CameOut answer (is_well device move.facts) node.records move

-- it is the same one of its tier
pub record IsSameSeat {S : Type 0} (old new : Seat S) : Type 0 where
  pub faults : new.view.faults ≡ old.view.faults
  pub tier : new.view.tier ≡ old.view.tier
  pub me : new.view.me ≡ old.view.me

-- A call of a node that is up, during which its disk may stop. Whatever node it stands for, with its disk, it stands
-- then for what the row's move makes of that one. Want of memory says nothing.
pub record Comes {S : Type 0} (IsIn : S → Type 0) (log_in : S → LogState AnyValue) (old new : Seat S) (disk_before disk_after : DiskState)
    (before after : List (End × List ℕ)) (row : S → Move S) (stop : Option StopAt) (answer : Result Answer Fault) (fared : Fared) : Type 0 where
  pub came : HadMemory answer → (node : Node S Fact) (s : S) → IsNodeOf log_in node old → IsDiskOf node disk_before → node.mode ≡ Up s
      → Came log_in new disk_after before after node (fate_of fared node.records (row s).facts) (row s) answer
  pub goes : IfSome old.view.up (λ s. IsMoveOf IsIn log_in old.view.tier old.view.me s (row s))
  pub fares : FaresAs (asked_of stop) fared
  pub can : can_fare fared ≡ true
  -- an event has a fault only where the disk counted one
  pub cause : is_fault fared ≡ true → Rose disk_before.faults disk_after.faults
  pub later : disk_before.faults ≤ disk_after.faults
  pub same : IsSameSeat old new

-- a call of a node that is up, which writes nothing and so touches no disk
pub record Tells {S : Type 0} (IsIn : S → Type 0) (log_in : S → LogState AnyValue) (old new : Seat S)
    (before after : List (End × List ℕ)) (row : S → Move S) (answer : Result Answer Fault) : Type 0 where
  pub came : HadMemory answer → (node : Node S Fact) (s : S) (disk : DiskState) → IsNodeOf log_in node old → IsDiskOf node disk → node.mode ≡ Up s
      → Came log_in new disk before after node Fine (row s) answer
  pub goes : IfSome old.view.up (λ s. IsMoveOf IsIn log_in old.view.tier old.view.me s (row s))
  pub same : IsSameSeat old new
