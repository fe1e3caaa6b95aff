-- The disks of the nodes: the lists of records that the run lets each one stand for.
use Rattle.std.specs.Prelude.{◌≡◌, ℕ, ◌+◌, ◌<◌, ◌≤◌, Bool, true, false, List, [], ◌∷◌, length, not, Option, Some, None, slice_get}
use Rattle.aeg_base.specs.declared.names.End.{End}
use Rattle.aeg_base.specs.declared.names.End.TheVariants.{Node, Client}
use Rattle.aeg_base.specs.declared.names.NodeId.{NodeId}
use Rattle.aeg_base.specs.declared.names.Tier.{Tier}
use Rattle.aeg_base.specs.declared.names.Tier.TheVariants as tiers
use Rattle.aeg_disk.specs.Disk.{DiskState, Rose}
use Rattle.fact_journal.specs.Standing.{HasFacts, StandsFor, IsAtRest, IsBlank}
use Rattle.log_model.specs.Nodes.{Mode, Node as NodeOf}
use Rattle.log_model.specs.Nodes.Mode.{Up, Down, Gone}
use Rattle.log_values.specs.declared.fact.Fact.{Fact}
use Rattle.tier_model.specs.Moves.{Packet}
use Rattle.run_model.specs.declared.trace.Fared.{Fared}
use Rattle.run_model.specs.declared.trace.Found.TheVariants.{Reads, Fault as Fails}
use Rattle.run_model.specs.declared.trace.TraceEvent.{TraceEvent}
use Rattle.run_model.specs.declared.trace.TraceEvent.TheVariants.{Submit, Deliver, Short, Lead, Offer, Work, Retry, Crash, Restart, Wipe}
use Rattle.run_model.specs.World.{start}
use Rattle.run_model.specs.Resolving.{is_fine}
use Rattle.run_model.specs.BookingRuns.{BookingWorld}

-- WHERE A NODE'S DISK IS

-- the disks of the middle nodes come first, then those of inventory, then those of payment, 5 of each
abbrev pub first_of : Tier → ℕ
first_of tiers.Mid = 0
first_of tiers.Inv = 5
first_of tiers.Pay = 10

abbrev pub place_of : NodeId → ℕ
place_of n = first_of n.tier + n.index

-- A NODE'S DISK

-- every image of the disk of a node that is up has its records, and the journal may go on
abbrev pub IsReady : {S : Type 0} → Mode S → List (List Fact) → DiskState → Type 0
IsReady (Up s) records disk = (at : ℕ) × HasFacts records disk at
IsReady Down records disk = Unit {0}
IsReady Gone records disk = Unit {0}

-- It is neither armed nor stopped, and each of its images has the records of one of the lists that the node lets it stand for.
pub record IsDiskOf {S : Type 0} (node : NodeOf S Fact) (disk : DiskState) : Type 0 where
  pub rest : IsAtRest disk
  pub lists : StandsFor (node.records ∷ node.others) disk
  pub ready : IsReady node.mode node.records disk

-- so is each of the five disks of a tier
abbrev pub AreDisksOf : {S : Type 0} → (ℕ → NodeOf S Fact) → ℕ → List DiskState → Type 0
AreDisksOf nodes first disks = (x : ℕ) (disk : DiskState) → x < 5 → slice_get disks (first + x) ≡ Some disk → IsDiskOf (nodes x) disk

-- there are 15 disks, and each is its node's
pub record AreDisks (w : BookingWorld) (disks : List DiskState) : Type 0 where
  pub all : length disks ≡ 15
  pub at : (t : Tier) → AreDisksOf (w.nodes t) (first_of t) disks

-- FAULTS

abbrev pub is_fault : Fared → Bool
is_fault fared = not (is_fine fared)

-- a disk failed in the event
abbrev pub is_faulty : TraceEvent → Bool
is_faulty (Deliver k fared) = is_fault fared
is_faulty (Short k bytes fared) = is_fault fared
is_faulty (Lead n fared) = is_fault fared
is_faulty (Offer n fared) = is_fault fared
is_faulty (Restart n (Reads k)) = false
is_faulty (Restart n Fails) = true
is_faulty (Submit y text) = false
is_faulty (Work n schedule) = false
is_faulty (Retry end) = false
is_faulty (Crash n) = false
is_faulty (Wipe n) = false

abbrev pub place_of_end : End → Option ℕ
place_of_end (Node n) = Some (place_of n)
place_of_end (Client y) = None

abbrev pub place_of_packet : Option Packet → Option ℕ
place_of_packet None = None
place_of_packet (Some k) = place_of_end k.to

-- the disk of the node at which the event happens
abbrev pub place_in : BookingWorld → TraceEvent → Option ℕ
place_in w (Deliver k fared) = place_of_packet (slice_get w.soup k)
place_in w (Short k bytes fared) = place_of_packet (slice_get w.soup k)
place_in w (Lead n fared) = Some (place_of n)
place_in w (Offer n fared) = Some (place_of n)
place_in w (Restart n found) = Some (place_of n)
place_in w (Submit y text) = None
place_in w (Work n schedule) = Some (place_of n)
place_in w (Retry end) = place_of_end end
place_in w (Crash n) = Some (place_of n)
place_in w (Wipe n) = Some (place_of n)

-- the count of faults of the disk there rose
abbrev pub RoseAt : List DiskState → List DiskState → ℕ → Type 0
RoseAt before after x = (a : DiskState) × (b : DiskState) × (slice_get before x ≡ Some a) × (slice_get after x ≡ Some b) × Rose a.faults b.faults

-- an event has a fault only where the count of its node's disk rose in it
abbrev pub HasCause : BookingWorld → List DiskState → List DiskState → TraceEvent → Type 0
HasCause w before after e = is_faulty e ≡ true → (x : ℕ) × (place_in w e ≡ Some x) × RoseAt before after x

-- so it is with each of these restarts
abbrev pub AllCaused : List DiskState → List DiskState → List TraceEvent → Type 0
AllCaused before after [] = Unit {0}
AllCaused before after (e ∷ es) = HasCause start before after e × AllCaused before after es

-- no disk's count of faults fell
abbrev pub NoneFell : List DiskState → List DiskState → Type 0
NoneFell before after = (length after ≡ length before)
    × ((x : ℕ) (a b : DiskState) → slice_get before x ≡ Some a → slice_get after x ≡ Some b → a.faults ≤ b.faults)

-- all are blank, tell so, and are neither armed nor stopped
abbrev pub AreBlank : List DiskState → Type 0
AreBlank disks = (length disks ≡ 15) × ((x : ℕ) (disk : DiskState) → slice_get disks x ≡ Some disk → IsBlank disk × IsAtRest disk)
