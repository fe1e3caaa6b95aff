-- What a node decides on what it has in hand, by a row.
use Rattle.std.specs.Prelude.{◌≡◌, ℕ, List, ◌++◌, Option, Some, None, IfOk, OnOk}
use Rattle.std.specs.declared.result.Result.{Result}
use Rattle.aeg_base.specs.declared.memory.Memory.{Memory}
use Rattle.aeg_base.specs.declared.names.End.{End}
use Rattle.tier_model.specs.declared.turn.Idle.{Idle}
use Rattle.tier_model.specs.declared.turn.Turn.{Turn as Answer}
use Rattle.tier_model.specs.declared.turn.Turn.TheVariants as answers
use Rattle.tier_model.specs.Moves.{Move}
use Rattle.node_log.specs.declared.decided.Decided.{Decided}
use Rattle.node_log.specs.declared.working.Working.{Working}
use Rattle.node_log.specs.Packets.{all_sealed, StillHas}
use Rattle.node_log.specs.Settling.{CanRecord}

-- It decided this move: what it has in hand then is the move's state, with the facts and the answer, and the packets stand
-- behind those before. It has the same journal, and all is well with what it has. Where memory ran out, the packets before
-- stand there still.
pub record DecidesMove {R S : Type 0} (whole : Working R → S) (IsWell : Working R → Type 0) (move : Move S) (old new : Working R)
    (before after : List (End × List ℕ)) (decided : Result Decided Memory) : Type 0 where
  pub state : OnOk decided (whole new ≡ move.state)
  pub facts : IfOk decided (λ d. d.facts.items ≡ move.facts)
  pub answer : IfOk decided (λ d. d.answer ≡ move.answer)
  pub packets : OnOk decided (after ≡ before ++ all_sealed move.sends)
  pub kept : StillHas before after
  pub can : IfOk decided (λ d. CanRecord d.facts.items)
  pub journal : OnOk decided (new.journal ≡ old.journal)
  pub range : OnOk decided (IsWell new)

-- why a node answers that it was idle
abbrev pub idle_in : Answer → Option Idle
idle_in answers.Did = None
idle_in (answers.Ran note) = None
idle_in (answers.Dropped refused) = None
idle_in (answers.Idle cause) = Some cause
