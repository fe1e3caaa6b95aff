-- How a run's parts stand for the world that its events come to.
use Rattle.std.specs.Prelude.{◌≡◌, ◌⊎◌, ℕ, ◌+◌, ◌*◌, ◌≤◌, Bool, true, false, List, [], ◌∷◌, ◌++◌, length, map, Option, Some, None, slice_get}
use Rattle.std.specs.declared.result.Result.{Result}
use Rattle.std.specs.declared.result.Result.TheVariants.{Ok, Err}
use Rattle.std.specs.List.{AllByRecursion}
use Rattle.std.specs.Result.{OnOk}
use Rattle.aeg_base.specs.declared.limits.TheConstants.{JOURNAL_BYTES, PACKETS}
use Rattle.aeg_base.specs.declared.memory.Memory.{Memory}
use Rattle.aeg_disk.specs.Disk.{DiskState}
use Rattle.fact_journal.specs.Fitting.{all_facts, open_after_all}
use Rattle.aeg_base.specs.declared.names.Tier.{Tier}
use Rattle.aeg_base.specs.declared.names.Tier.TheVariants as tiers
use Rattle.server_model.specs.Backends.{Amounts}
use Rattle.log_model.specs.Nodes.{Mode, Node as NodeOf, writes}
use Rattle.log_model.specs.Nodes.Mode.{Up, Down, Gone}
use Rattle.log_values.specs.declared.fact.Fact.{Fact}
use Rattle.log_values.specs.Records.{record_text}
use Rattle.round_model.specs.Service.{is_request}
use Rattle.tier_model.specs.Kinds.{State}
use Rattle.run_model.specs.World.{ClientEnd, journal_length}
use Rattle.run_model.specs.declared.trace.Fared.{Fared}
use Rattle.run_model.specs.declared.trace.Fared.TheVariants.{Fault}
use Rattle.run_model.specs.declared.trace.Found.{Found}
use Rattle.run_model.specs.declared.trace.TraceEvent.{TraceEvent}
use Rattle.run_model.specs.Resolving.{Finds}
use Rattle.run_model.specs.Text.{after, event_text}
use Rattle.net_script.specs.Clients.{ClientState}
use Rattle.world.specs.declared.nodes.all_nodes.Nodes.{Nodes}
use Rattle.world.specs.declared.parts.Parts.{Parts}
use Rattle.run_model.specs.BookingRuns.{config, booking_service, BookingWorld}
use Rattle.world.specs.Disks.{AreDisks, HasCause, NoneFell}
use Rattle.world.specs.Parts.{NodePart, View, PartOf, shape, open_in, as_mid, as_back, sealed, AreFit, AllReach, AllStand}
use Rattle.world.specs.NodeLists.{depth_at, views}
use Rattle.world.specs.Watching.{seen_in}

-- A NODE

abbrev pub mode_by : {S T : Type 0} → (S → T) → Mode S → Mode T
mode_by whole (Up s) = Up (whole s)
mode_by whole Down = Down
mode_by whole Gone = Gone

-- how long a journal of these records is
abbrev pub journal_of : List (List Fact) → ℕ
journal_of records = journal_length (λ facts. length (record_text facts)) records

-- A node that is up has its place, and is in no doubt. One in doubt has the place of its records, and its disk may have one
-- record more. A node that is gone has none.
abbrev pub IsPlaced : {S : Type 0} → Mode S → ℕ → Bool → List (List Fact) → Type 0
IsPlaced (Up s) place doubt records = (place + 1 ≡ journal_of records) × (doubt ≡ false)
IsPlaced Down place doubt records = doubt ≡ true → place + 1 ≡ journal_of records
IsPlaced Gone place doubt records = (doubt ≡ false) × (records ≡ [])

abbrev pub IsDoubted : Bool → List (List Fact) → List (List (List Fact)) → Type 0
IsDoubted false records others = others ≡ []
IsDoubted true records others = (facts : List Fact) × (writes facts ≡ true) × (others ≡ (records ++ facts ∷ []) ∷ [])

-- each of the lists is within a journal's limit
abbrev pub AllWithin : List (List (List Fact)) → Type 0
AllWithin lists = AllByRecursion (λ records. journal_of records ≤ JOURNAL_BYTES) lists

-- the log of a node that is up is open where its records leave it
abbrev pub IsOpen : {S : Type 0} → (S → ℕ) → Mode S → List (List Fact) → Type 0
IsOpen open_of (Up s) records = open_of s ≡ open_after_all 0 (all_facts records)
IsOpen open_of Down records = Unit {0}
IsOpen open_of Gone records = Unit {0}

-- It is up, down or gone with the world's state. What its disk may stand for are records that a node of its tier can have
-- written, and what it knows of its journal agrees with them.
pub record IsNode {S T : Type 0} (t : Tier) (whole : S → T) (open_of : S → ℕ) (node : NodeOf T Fact) (part : NodePart S) : Type 0 where
  pub mode : node.mode ≡ mode_by whole part.mode
  pub placed : IsPlaced part.mode part.place part.doubt node.records
  pub doubted : IsDoubted part.doubt node.records node.others
  pub within : AllWithin (node.records ∷ node.others)
  pub stand : AllStand t (node.records ∷ node.others)
  pub opened : IsOpen open_of part.mode node.records

-- what is in memory of the node x of the tier t of 2u+1
abbrev pub state_at : ℕ → ℕ → (t : Tier) → ℕ → PartOf t → State Amounts t
state_at u depth tiers.Mid x = as_mid u x depth
state_at u depth tiers.Inv x = as_back u tiers.Inv
state_at u depth tiers.Pay x = as_back u tiers.Pay

-- the node x of the tier t of 2u+1
pub record IsAt (u depth : ℕ) (t : Tier) (x : ℕ) (node : NodeOf (State Amounts t) Fact) (v : View (PartOf t)) : Type 0 where
  pub faults : v.faults ≡ u
  pub tier : v.tier ≡ t
  pub deep : v.depth ≡ depth_at t depth
  pub me : v.me ≡ x
  pub part : IsNode t (state_at u depth t x) (open_in (shape t)) node v.part

-- ALL NODES

-- there are n of them, and each is what the function has at its number
pub record AreAll {N V : Type 0} (n : ℕ) (Is : ℕ → N → V → Type 0) (nodes : ℕ → N) (vs : List V) : Type 0 where
  pub size : length vs ≡ n
  pub each : (x : ℕ) (v : V) → slice_get vs x ≡ Some v → Is x (nodes x) v

pub record AreNodes (u depth : ℕ) (w : BookingWorld) (nodes : Nodes) : Type 0 where
  pub at : (t : Tier) → AreAll (2 * u + 1) (IsAt u depth t) (w.nodes t) (views nodes t)

-- CLIENTS

-- while nothing is run no request is done, so a client asks at most once
abbrev pub AsksOnce : ℕ → ℕ → Option (List ℕ) → Type 0
AsksOnce y last None = last ≡ 0
AsksOnce y last (Some text) = (last ≡ 1) × (is_request booking_service.programs (record { client = y; seq = 1 }) text ≡ true)

pub record IsClientEnd (y : ℕ) (end : ClientEnd) (c : ClientState) : Type 0 where
  pub is : c ≡ record { number = y; end = end }
  pub asks : AsksOnce y end.last end.opened

-- ALL PARTS

-- The parts are the world's. Each packet is one that its sender can send and that can reach its end, and they aren't too many.
pub record Shows (u depth : ℕ) (w : BookingWorld) (parts : Parts) : Type 0 where
  pub size : parts.u ≡ u
  pub few : u ≤ 2
  pub nodes : AreNodes u depth w parts.nodes
  pub clients : AreAll 17 IsClientEnd w.clients parts.clients.items
  pub soup : parts.soup ≡ map sealed w.soup
  pub within : length parts.soup ≤ PACKETS
  pub fit : AreFit w.soup
  pub reach : AllReach u w.soup
  pub watch : parts.watch ≡ seen_in (config u depth) w

-- of some world
abbrev pub AreShown : Parts → Type 0
AreShown parts = (u : ℕ) × (depth : ℕ) × (w : BookingWorld) × Shows u depth w parts

-- and these are its disks
abbrev pub AreShownOn : Parts → List DiskState → Type 0
AreShownOn parts disks = (u : ℕ) × (depth : ℕ) × (w : BookingWorld) × Shows u depth w parts × AreDisks w disks

-- The event is made and what it prints is added; the disks are those of the world then.
pub record Makes (new : Parts) (disks_before disks_after : List DiskState) (before now : List ℕ) (event : TraceEvent)
    (u depth : ℕ) (w : BookingWorld) : Type 0 where
  pub shows : Shows u depth (after (config u depth) w event) new
  pub disks : AreDisks (after (config u depth) w event) disks_after
  pub cause : HasCause w disks_before disks_after event
  pub later : NoneFell disks_before disks_after
  pub finds : Finds w event
  pub told : now ≡ before ++ event_text (config u depth) w event

-- whatever world the parts and the disks are of
abbrev pub MakesAny : Parts → Parts → List DiskState → List DiskState → List ℕ → List ℕ → TraceEvent → Type 0
MakesAny old new disks_before disks_after before now event = (u depth : ℕ) (w : BookingWorld) → Shows u depth w old
    → AreDisks w disks_before → Makes new disks_before disks_after before now event u depth w

-- an event in which no disk is touched; want of memory says nothing
abbrev pub Plays : Parts → Parts → List ℕ → List ℕ → TraceEvent → Result (Unit {0}) Memory → Type 0
Plays old new before now event result = OnOk result ((disks : List DiskState) → MakesAny old new disks disks before now event)

-- an event that has one outcome on the disks
abbrev pub PlaysOn : Parts → Parts → List DiskState → List DiskState → List ℕ → List ℕ → TraceEvent → Result (Unit {0}) Memory → Type 0
PlaysOn old new disks_before disks_after before now event result = OnOk result (MakesAny old new disks_before disks_after before now event)

-- it fared as was asked, or its disk met a fault
abbrev pub FaresAs : Fared → Fared → Type 0
FaresAs asked fared = (fared ≡ asked) ⊎ (fared ≡ Fault)

-- an event that fares as its disk does
abbrev pub PlaysBy : Parts → Parts → List DiskState → List DiskState → List ℕ → List ℕ → (Fared → TraceEvent) → Fared → Result Fared Memory → Type 0
PlaysBy old new disks_before disks_after before now event asked (Ok fared) = FaresAs asked fared
    × MakesAny old new disks_before disks_after before now (event fared)
PlaysBy old new disks_before disks_after before now event asked (Err Memory) = Unit {0}

-- a restart that finds what its disk has
abbrev pub PlaysFound : Parts → Parts → List DiskState → List DiskState → List ℕ → List ℕ → (Found → TraceEvent) → Result Found Memory → Type 0
PlaysFound old new disks_before disks_after before now event (Ok found) = MakesAny old new disks_before disks_after before now (event found)
PlaysFound old new disks_before disks_after before now event (Err Memory) = Unit {0}
