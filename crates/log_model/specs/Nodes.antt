-- Nodes of any kind: their disks, and what moves, cuts, faults, crashes, restarts and wipes make of them.
use Rattle.std.specs.Prelude.{ℕ, zero, suc, Bool, true, false, not, List, [], ◌∷◌, ◌++◌, ◌==◌, Option, Some, None, slice_get, if◌then◌else◌}
use Rattle.log_model.specs.Recover.{newest}

-- a node is up with a state, down, or gone for good
pub data Mode (S : Type 0) : Type 0 where
  Up : S → Mode S
  Down : Mode S
  Gone : Mode S

-- A node, and the records that its disk stands for, oldest first: each has the facts of one event. After a fault the
-- disk may stand for others as well.
pub record Node (S F : Type 0) : Type 0 where
  pub mode : Mode S
  pub records : List (List F)
  pub others : List (List (List F))

-- How the device fared in an event: a cut keeps its record or drops it, and a fault leaves that open.
pub data Device : Type 0 where
  Fine : Device
  CutKeep : Device
  CutDrop : Device
  Fault : Device

-- the function with another value at x
abbrev pub put : {A : Type 0} → (ℕ → A) → ℕ → A → ℕ → A
put f x a y = if y == x then a else f y

-- an event that writes nothing adds no record
abbrev pub recorded : {F : Type 0} → List (List F) → List F → List (List F)
recorded records [] = records
recorded records (f ∷ fs) = records ++ (f ∷ fs) ∷ []

-- the disk stands for these records alone
abbrev pub stands : {S F : Type 0} → Mode S → List (List F) → Node S F
stands mode records = record { mode = mode; records = records; others = [] }

-- MOVES

abbrev pub writes : {F : Type 0} → List F → Bool
writes [] = false
writes (f ∷ fs) = true

-- An event that writes nothing meets no cut. A fault takes the node down, whatever it writes.
abbrev pub is_well : {F : Type 0} → Device → List F → Bool
is_well Fine facts = true
is_well CutKeep facts = not (writes facts)
is_well CutDrop facts = not (writes facts)
is_well Fault facts = false

-- what the disk may stand for besides, where the facts may have been written
abbrev pub or_written : {F : Type 0} → List (List F) → List F → List (List (List F))
or_written records [] = []
or_written records (f ∷ fs) = recorded records (f ∷ fs) ∷ []

-- the node after an event in which its device failed
abbrev pub failed : {S F : Type 0} → Node S F → List F → Device → Node S F
failed node facts Fine = node
failed node facts CutKeep = stands Down (recorded node.records facts)
failed node facts CutDrop = stands Down node.records
failed node facts Fault = record { mode = Down; records = node.records; others = or_written node.records facts }

-- the node after an event that brings it to this state and writes these facts
abbrev pub moved : {S F : Type 0} → Node S F → Device → S → List F → Node S F
moved node device state facts = if is_well device facts then stands (Up state) (recorded node.records facts) else failed node facts device

-- what it sends: nothing where it goes down
abbrev pub sent : {F P : Type 0} → Device → List F → List P → List P
sent device facts packets = if is_well device facts then packets else []

-- CRASH AND RESTART

-- without power
abbrev pub crashed : {S F : Type 0} → Node S F → Mode S → Node S F
crashed node (Up s) = stands Down node.records
crashed node Down = node
crashed node Gone = node

abbrev pub up_from : {S F : Type 0} → (List F → S) → List (List F) → Node S F
up_from recover records = stands (Up (recover (newest records))) records

-- the node with what a restart reads there, if it's one of the lists that the disk stands for
abbrev pub up_as : {S F : Type 0} → (List F → S) → Node S F → Option (List (List F)) → Node S F
up_as recover node None = node
up_as recover node (Some records) = up_from recover records

-- the list with this number among those that the disk stands for
abbrev pub found_at : {S F : Type 0} → (List F → S) → Node S F → ℕ → Node S F
found_at recover node zero = up_from recover node.records
found_at recover node (suc k) = up_as recover node (slice_get node.others k)

-- a restart that reads the list with this number, or none
abbrev pub restarted : {S F : Type 0} → (List F → S) → Node S F → Option ℕ → Mode S → Node S F
restarted recover node (Some k) Down = found_at recover node k
restarted recover node None Down = node
restarted recover node found (Up s) = node
restarted recover node found Gone = node
