-- What contracts see of a node, and what an event makes of it, of its disk and of the packets.
use Rattle.std.specs.Prelude.{◌≡◌, ◌⊎◌, ℕ, ◌+◌, ◌-◌, ◌^◌, ◌≤◌, min, Bool, true, false, List, [], ◌++◌, Option, Some}
use Rattle.std.specs.Prelude.{None, is_some, option_map, IfSome, IfOk, OnOk, OnErr}
use Rattle.std.specs.declared.result.Result.{Result}
use Rattle.std.specs.declared.result.Result.TheVariants.{Err}
use Rattle.aeg_base.specs.declared.names.Tier.{Tier}
use Rattle.aeg_base.specs.declared.names.End.{End}
use Rattle.aeg_disk.specs.Disk.{DiskState, Rose, Later}
use Rattle.fact_journal.specs.Standing.{HasFacts, StandsFor}
use Rattle.fact_journal.specs.Calls.{length_with, is_past, old_or_new, IsCut, IsRefusedAt, Opened, ReadsOne}
use Rattle.fact_journal.specs.Fitting.{FactsFit, EachFits}
use Rattle.log_model.specs.Nodes.{recorded, writes}
use Rattle.log_model.specs.Recover.{onto}
use Rattle.log_values.specs.declared.fact.Fact.{Fact}
use Rattle.tier_model.specs.declared.turn.Turn.{Turn as Answer}
use Rattle.tier_model.specs.declared.turn.Fault.{Fault}
use Rattle.tier_model.specs.declared.turn.Fault.TheVariants as faults
use Rattle.tier_model.specs.Moves.{Move}
use Rattle.node_log.specs.Packets.{all_sealed}

-- A node: which one it is in a tier of 2 * faults + 1, its state while it is up, and the place of the shut gate that ends
-- its journal, as far as it knows.
pub record View (S : Type 0) : Type 0 where
  pub faults : ℕ
  pub tier : Tier
  pub me : ℕ
  pub up : Option S
  pub place : ℕ

-- before its first start, on a blank disk
abbrev pub new_node : {S : Type 0} → ℕ → Tier → ℕ → View S
new_node u t x = record { faults = u; tier = t; me = x; up = None; place = 0 }

-- the node with what f makes of its state
abbrev pub seen_as : {S T : Type 0} → (S → T) → View S → View T
seen_as f v = record { faults = v.faults; tier = v.tier; me = v.me; up = option_map f v.up; place = v.place }

-- it has gone down
abbrev pub went_down : {S : Type 0} → View S → View S
went_down v = record v { up = None }

abbrev pub is_up : {S : Type 0} → View S → Bool
is_up v = is_some v.up

-- EVENTS AT A NODE

-- where it tells, its disk has just some records, with the shut gate at the node's place
abbrev pub MayWrite : {S : Type 0} → View S → DiskState → Type 0
MayWrite v disk = disk.tells ≡ true → (rs : List (List Fact)) × HasFacts rs disk v.place

-- the node made this move: its state, its packets in order, and its answer are the move's
pub record Made {S : Type 0} (old new : View S) (before after : List (End × List ℕ)) (move : Move S) (answer : Answer) : Type 0 where
  pub node : new ≡ record old { up = Some move.state; place = new.place }
  pub packets : after ≡ before ++ all_sealed move.sends
  pub answer_is : answer ≡ move.answer

-- These facts were written down as one record, no stop was armed for it, and the journal is as long as they make it. No
-- facts are no record.
pub record Wrote (before after : DiskState) (place_before place_after : ℕ) (facts : List Fact) : Type 0 where
  pub records : (rs : List (List Fact)) → before.tells ≡ true → HasFacts rs before place_before → HasFacts (recorded rs facts) after place_after
  pub long : place_after + 1 ≡ length_with (place_before + 1) facts
  pub within : is_past (place_before + 1) facts ≡ false
  pub unstopped : writes facts ≡ true → before.armed ≤ 4 → before.armed ≡ 0
  pub untouched : writes facts ≡ false → after ≡ before

-- The facts may have been written down or not, and a stop that was armed and met tells which.
pub record MayHaveWritten (before after : DiskState) (place : ℕ) (facts : List Fact) : Type 0 where
  pub one_of_two : (rs : List (List Fact)) → before.tells ≡ true → HasFacts rs before place → StandsFor (old_or_new rs facts) after
  pub stop : before.stopped ≡ false → after.stopped ≡ true → (rs : List (List Fact)) → before.tells ≡ true → HasFacts rs before place
      → IsCut rs facts before after

-- Why an event has a fault: the journal would pass its limit, and nothing was written; the disk failed as the facts were
-- written; or memory ran out.
abbrev pub HasCause : DiskState → DiskState → ℕ → List Fact → Fault → Type 0
HasCause before after place facts (faults.JournalFull size) = (is_past (place + 1) facts ≡ true)
    × (size ≡ min (length_with (place + 1) facts) (2 ^ 64 - 1)) × (after ≡ before)
HasCause before after place facts faults.Disk = (is_past (place + 1) facts ≡ false) × (writes facts ≡ true)
    × ((after.stopped ≡ true) ⊎ Rose before.faults after.faults)
HasCause before after place facts faults.Memory = Unit {0}
HasCause before after place facts (faults.BadRecord at) = ⊥

-- A call of a node that is up makes the row's move, and its facts are written down before anything is handed out. After a
-- fault the node is down, hands out nothing, and its disk has the old records, or these and the move's one.
pub record Moves {S : Type 0} (old new : View S) (disk_before disk_after : DiskState) (before after : List (End × List ℕ)) (row : S → Move S)
    (result : Result Answer Fault) : Type 0 where
  pub made : IfOk result (λ answer. IfSome old.up (λ s. Made old new before after (row s) answer))
  pub wrote : OnOk result (IfSome old.up (λ s. Wrote disk_before disk_after old.place new.place (row s).facts))
  pub down : OnErr result (new ≡ went_down old)
  pub nothing_sent : OnErr result (after ≡ before)
  pub may_have : OnErr result (IfSome old.up (λ s. MayHaveWritten disk_before disk_after old.place (row s).facts))
  pub cause : (fault : Fault) → result ≡ Err fault → IfSome old.up (λ s. HasCause disk_before disk_after old.place (row s).facts fault)
  pub later : Later disk_before disk_after

-- A call of a node that is up makes a move that writes nothing. Where memory runs out, the node is down and sends nothing.
pub record Tells {S : Type 0} (old new : View S) (before after : List (End × List ℕ)) (row : S → Move S) (result : Result Answer Fault) : Type 0 where
  pub made : IfOk result (λ answer. IfSome old.up (λ s. Made old new before after (row s) answer))
  pub same_place : new.place ≡ old.place
  pub down : OnErr result (new ≡ went_down old)
  pub nothing_sent : OnErr result (after ≡ before)
  pub memory : (fault : Fault) → result ≡ Err fault → fault ≡ faults.Memory

-- RESTARTS

-- the node is up with what these facts, the oldest one first, leave
abbrev pub CameUp : {S : Type 0} → View S → View S → (List Fact → S) → List Fact → Type 0
CameUp old new recovered facts = new ≡ record old { up = Some (recovered (onto facts [])); place = new.place }

-- A node that is down comes up from what its disk has.
pub record Restarts {S : Type 0} (old new : View S) (before after : DiskState) (recovered : List Fact → S) (result : Result (Unit {0}) Fault) : Type 0 where
  -- whatever the disk tells, from facts that fit it
  pub fits : OnOk result ((facts : List Fact) × FactsFit old.tier 0 facts × CameUp old new recovered facts)
  -- where it tells, from the facts of the records that it has
  pub reads : OnOk result (before.tells ≡ true → (facts : List Fact) × Opened old.tier before after facts new.place × CameUp old new recovered facts)
  -- where it stands for lists of records that fit, from one of them, which it has then
  pub one_list : OnOk result ((lists : List (List (List Fact))) → StandsFor lists before → EachFits old.tier lists
      → (facts : List Fact) × ReadsOne lists after facts new.place × CameUp old new recovered facts)
  -- a disk without a bad record is never refused, and one with it is refused there
  pub whole : OnOk result (before.tells ≡ true → (at : ℕ) → IsRefusedAt old.tier at before.bytes → ⊥)
  pub refused : (at : ℕ) → result ≡ Err (faults.BadRecord at) → before.tells ≡ true → IsRefusedAt old.tier at before.bytes
  pub none_refused : (lists : List (List (List Fact))) → StandsFor lists before → EachFits old.tier lists → (at : ℕ) → result ≡ Err (faults.BadRecord at) → ⊥
  pub same_lists : (lists : List (List (List Fact))) → StandsFor lists before → OnErr result (StandsFor lists after)
  pub disk : result ≡ Err faults.Disk → (after.stopped ≡ true) ⊎ Rose before.faults after.faults
  pub never_full : (size : ℕ) → result ≡ Err (faults.JournalFull size) → ⊥
  pub down : OnErr result (new ≡ old)
  pub later : Later before after
