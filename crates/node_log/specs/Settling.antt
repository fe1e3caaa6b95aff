-- What a call decides on what it has in hand of a node, and what settling that does.
use Rattle.std.specs.Prelude.{◌≡◌, ℕ, ◌≤◌, List, ◌++◌, length, IfOk, OnOk, OnErr, IsOk}
use Rattle.std.specs.declared.result.Result.{Result}
use Rattle.std.specs.declared.result.Result.TheVariants.{Err}
use Rattle.std.specs.List.{AllByRecursion}
use Rattle.aeg_base.specs.declared.limits.TheConstants.{RECORD_BYTES}
use Rattle.aeg_base.specs.declared.memory.Memory.{Memory}
use Rattle.aeg_base.specs.declared.names.End.{End}
use Rattle.aeg_disk.specs.Disk.{DiskState, Later}
use Rattle.log_values.specs.declared.fact.Fact.{Fact}
use Rattle.log_values.specs.Records.{record_text, FitsFact}
use Rattle.tier_model.specs.declared.turn.Turn.{Turn as Answer}
use Rattle.tier_model.specs.declared.turn.Fault.{Fault}
use Rattle.tier_model.specs.declared.turn.Fault.TheVariants as faults
use Rattle.tier_model.specs.Moves.{Move}
use Rattle.node_log.specs.declared.decided.Decided.{Decided}
use Rattle.node_log.specs.declared.working.Working.{Working}
use Rattle.node_log.specs.Packets.{all_sealed, StillHas}
use Rattle.node_log.specs.Views.{Wrote, MayHaveWritten, HasCause}
use Rattle.node_log.specs.LogNodes.{Standing, standing_in}

-- the facts can be written down as one record
pub record CanRecord (facts : List Fact) : Type 0 where
  pub fit : AllByRecursion FitsFact facts
  pub short : length (record_text facts) ≤ RECORD_BYTES

-- What was decided was written down, from one place of the journal's gate to the next. What ran out of memory before leaves
-- the disk alone.
pub record Records (before after : DiskState) (place next : ℕ) (decided : Result Decided Memory) (result : Result Answer Fault) : Type 0 where
  pub had_memory : OnOk result (IsOk decided)
  pub answer : IfOk result (λ answer. IfOk decided (λ d. answer ≡ d.answer))
  pub wrote : IfOk decided (λ d. OnOk result (Wrote before after place next d.facts.items))
  pub may_have : IfOk decided (λ d. OnErr result (MayHaveWritten before after place d.facts.items))
  pub cause : (fault : Fault) → result ≡ Err fault → IfOk decided (λ d. HasCause before after place d.facts.items fault)
  pub memory : (fault : Fault) → result ≡ Err fault → OnErr decided (fault ≡ faults.Memory)
  pub untouched : OnErr decided (after ≡ before)
  pub later : Later before after

-- A call decided the row's move: it has the move's state in hand then, with the facts and the answer, and the packets stand
-- behind those before. Where memory ran out, too, these stand there still.
pub record Decides {R S : Type 0} (whole : Standing R → S) (row : S → Move S) (old new : Working R) (before after : List (End × List ℕ))
    (decided : Result Decided Memory) : Type 0 where
  pub state : OnOk decided (whole (standing_in new) ≡ (row (whole (standing_in old))).state)
  pub facts : IfOk decided (λ d. d.facts.items ≡ (row (whole (standing_in old))).facts)
  pub answer : IfOk decided (λ d. d.answer ≡ (row (whole (standing_in old))).answer)
  pub packets : OnOk decided (after ≡ before ++ all_sealed (row (whole (standing_in old))).sends)
  pub kept : StillHas before after
