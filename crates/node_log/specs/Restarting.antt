-- What opening a node's journal tells, and what a restart makes of it.
use Rattle.std.specs.Prelude.{◌≡◌, ◌⊎◌, ℕ, List, [], true, IfOk, OnOk}
use Rattle.std.specs.declared.alloc.Global.{Global}
use Rattle.std.specs.declared.result.Result.{Result}
use Rattle.std.specs.declared.result.Result.TheVariants.{Ok, Err}
use Rattle.std.specs.declared.vec.Vec.{Vec}
use Rattle.aeg_base.specs.declared.names.Tier.{Tier}
use Rattle.aeg_disk.specs.Disk.{DiskState, Rose, Later}
use Rattle.fact_journal.specs.Calls.{IsRefusedAt, Opened, ReadsOne}
use Rattle.fact_journal.specs.Fitting.{FactsFit, EachFits}
use Rattle.fact_journal.specs.Standing.{StandsFor}
use Rattle.log_model.specs.Recover.{onto, recover}
use Rattle.log_values.specs.declared.any_value.AnyValue.{AnyValue}
use Rattle.log_values.specs.declared.fact.Fact.{Fact}
use Rattle.tier_model.specs.declared.turn.Fault.{Fault}
use Rattle.tier_model.specs.declared.turn.Fault.TheVariants as faults
use Rattle.paxos_log.specs.TierLog.{NodeLog}
use Rattle.tier_model.specs.Moves.{log_facts}
use Rattle.node_log.specs.Views.{View, CameUp}

-- the place of the gate that ends an opened journal, and the facts that were read, the oldest one first
abbrev pub Journal : Type 0
Journal = ℕ × Vec Fact Global

-- A journal of the tier was opened: what is read, whatever the disk tells, where it tells, and where it stands for lists of
-- records that fit; and what is refused.
pub record Opens (tier : Tier) (before after : DiskState) (result : Result Journal Fault) : Type 0 where
  pub fits : IfOk result (λ r. FactsFit tier 0 r.1.items)
  pub reads : IfOk result (λ r. before.tells ≡ true → Opened tier before after r.1.items r.0)
  pub one_list : (lists : List (List (List Fact))) → StandsFor lists before → EachFits tier lists → IfOk result (λ r. ReadsOne lists after r.1.items r.0)
  -- a disk without a bad record is never refused, and one with it is refused there
  pub whole : OnOk result (before.tells ≡ true → (at : ℕ) → IsRefusedAt tier at before.bytes → ⊥)
  pub refused : (at : ℕ) → result ≡ Err (faults.BadRecord at) → before.tells ≡ true → IsRefusedAt tier at before.bytes
  pub none_refused : (lists : List (List (List Fact))) → StandsFor lists before → EachFits tier lists → (at : ℕ) → result ≡ Err (faults.BadRecord at) → ⊥
  -- whatever is answered, the disk stands for the same lists
  pub same_lists : (lists : List (List (List Fact))) → StandsFor lists before → StandsFor lists after
  pub disk : result ≡ Err faults.Disk → (after.stopped ≡ true) ⊎ Rose before.faults after.faults
  pub never_full : (size : ℕ) → result ≡ Err (faults.JournalFull size) → ⊥
  pub later : Later before after

-- the log that facts leave, the oldest one first, at node x of a tier of 2u+1
abbrev pub restored_log : ℕ → ℕ → List Fact → NodeLog AnyValue
restored_log u x facts = record { faults = u; me = x; state = recover u (log_facts (onto facts [])) }

-- A restart comes up with what the facts of the opened journal leave, unless memory runs out on the way. Where it fails it
-- tells why, and stays down.
abbrev pub ComesUp : {S : Type 0} → View S → View S → (List Fact → S) → Result Journal Fault → Result (Unit {0}) Fault → Type 0
ComesUp old new recovered (Ok r) (Ok _) = CameUp old new recovered r.1.items × (new.place ≡ r.0)
ComesUp old new recovered (Ok r) (Err fault) = (fault ≡ faults.Memory) × (new ≡ old)
ComesUp old new recovered (Err why) (Ok _) = ⊥
ComesUp old new recovered (Err why) (Err fault) = (fault ≡ why) × (new ≡ old)
