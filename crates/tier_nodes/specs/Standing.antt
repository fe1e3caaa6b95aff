-- Which node of the definition a node at its place stands for, and which disk is that node's.
use Rattle.std.specs.Prelude.{◌≡◌, ℕ, ◌+◌, ◌≤◌, Bool, true, false, List, [], ◌∷◌, ◌++◌, length, Option, Some, None}
use Rattle.std.specs.List.{AllByRecursion}
use Rattle.aeg_base.specs.declared.limits.TheConstants.{JOURNAL_BYTES}
use Rattle.aeg_disk.specs.Disk.{DiskState}
use Rattle.fact_journal.specs.Fitting.{EachFits, all_facts, open_after_all}
use Rattle.fact_journal.specs.Standing.{HasFacts, StandsFor, IsAtRest}
use Rattle.log_model.specs.Log.{LogState, open_at}
use Rattle.log_model.specs.Nodes.{Mode, Node, writes}
use Rattle.log_model.specs.Nodes.Mode.{Up, Down, Gone}
use Rattle.log_values.specs.declared.any_value.AnyValue.{AnyValue}
use Rattle.log_values.specs.declared.fact.Fact.{Fact}
use Rattle.log_values.specs.Records.{record_text}
use Rattle.run_model.specs.World.{journal_length}
use Rattle.node_log.specs.Views.{View}

-- A node at its place: what is seen of it, whether it is gone for good, and whether its disk may have one record more
-- than it knows.
pub record Seat (S : Type 0) : Type 0 where
  pub view : View S
  pub gone : Bool
  pub doubt : Bool

abbrev pub mode_in : {S : Type 0} → Bool → Option S → Mode S
mode_in true up = Gone
mode_in false (Some s) = Up s
mode_in false None = Down

abbrev pub mode_of : {S : Type 0} → Seat S → Mode S
mode_of seat = mode_in seat.gone seat.view.up

-- how long a journal of these records is
abbrev pub journal_of : List (List Fact) → ℕ
journal_of records = journal_length (λ facts. length (record_text facts)) records

-- A node that is up has its place, and is in no doubt. One in doubt has the place of its records, and its disk may have
-- one record more. A node that is gone has none.
abbrev pub IsPlaced : {S : Type 0} → Mode S → ℕ → Bool → List (List Fact) → Type 0
IsPlaced (Up s) place doubt records = (place + 1 ≡ journal_of records) × (doubt ≡ false)
IsPlaced Down place doubt records = doubt ≡ true → place + 1 ≡ journal_of records
IsPlaced Gone place doubt records = (doubt ≡ false) × (records ≡ [])

abbrev pub IsDoubted : Bool → List (List Fact) → List (List (List Fact)) → Type 0
IsDoubted false records others = others ≡ []
IsDoubted true records others = (facts : List Fact) × (writes facts ≡ true) × (others ≡ (records ++ facts ∷ []) ∷ [])

-- each of the lists is within a journal's limit
abbrev pub AllWithin : List (List (List Fact)) → Type 0
AllWithin lists = AllByRecursion (λ records. journal_of records ≤ JOURNAL_BYTES) lists

-- the log of a node that is up is open where its records leave it
abbrev pub IsOpen : {S : Type 0} → (S → LogState AnyValue) → Mode S → List (List Fact) → Type 0
IsOpen log_in (Up s) records = open_at (log_in s) ≡ open_after_all 0 (all_facts records)
IsOpen log_in Down records = Unit {0}
IsOpen log_in Gone records = Unit {0}

-- It is up, down or gone as the node is. The records that the node's disk may stand for fit its tier, and what it knows
-- of its journal agrees with them.
pub record IsNodeOf {S : Type 0} (log_in : S → LogState AnyValue) (node : Node S Fact) (seat : Seat S) : Type 0 where
  pub mode : node.mode ≡ mode_of seat
  pub placed : IsPlaced node.mode seat.view.place seat.doubt node.records
  pub doubted : IsDoubted seat.doubt node.records node.others
  pub within : AllWithin (node.records ∷ node.others)
  pub fits : EachFits seat.view.tier (node.records ∷ node.others)
  pub opened : IsOpen log_in node.mode node.records

-- every image of the disk of a node that is up has its records, and the journal may go on
abbrev pub IsReady : {S : Type 0} → Mode S → List (List Fact) → DiskState → Type 0
IsReady (Up s) records disk = (at : ℕ) × HasFacts records disk at
IsReady Down records disk = Unit {0}
IsReady Gone records disk = Unit {0}

-- It is neither armed nor stopped, and each of its images has the records of one of the lists that the node lets it
-- stand for.
pub record IsDiskOf {S : Type 0} (node : Node S Fact) (disk : DiskState) : Type 0 where
  pub rest : IsAtRest disk
  pub lists : StandsFor (node.records ∷ node.others) disk
  pub ready : IsReady node.mode node.records disk

-- it stands for some node, and this is that node's disk
abbrev pub StandsOn : {S : Type 0} → (S → LogState AnyValue) → Seat S → DiskState → Type 0
StandsOn {S} log_in seat disk = (node : Node S Fact) × IsNodeOf log_in node seat × IsDiskOf node disk
