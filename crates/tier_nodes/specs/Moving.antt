-- What holds of the move that a row makes of a state in range.
use Rattle.std.specs.Prelude.{◌≡◌, ℕ, ◌≤◌, length}
use Rattle.std.specs.List.{AllByRecursion}
use Rattle.aeg_base.specs.declared.names.Tier.{Tier}
use Rattle.fact_journal.specs.Fitting.{FactsFit, open_after_all}
use Rattle.log_model.specs.Log.{LogState, open_at}
use Rattle.log_values.specs.declared.any_value.AnyValue.{AnyValue}
use Rattle.tier_model.specs.Moves.{node, Move, Packet}
use Rattle.row_laws.specs.Moves.{IsMoveTo, IsSealable, most_sent}

-- What the move of the tier's node x leaves is in range. Each packet is its own and has a frame, and they are few. At
-- most one fact is written down; it fits the node's journal, and opens the log where the move leaves it open.
pub record IsMoveOf {S : Type 0} (IsIn : S → Type 0) (log_in : S → LogState AnyValue) (t : Tier) (x : ℕ) (s : S) (move : Move S) : Type 0 where
  pub state : IsIn move.state
  pub sealable : AllByRecursion (IsSealable (node t x)) move.sends
  pub few : length move.sends ≤ most_sent
  pub short : length move.facts ≤ 1
  pub facts : FactsFit t (open_at (log_in s)) move.facts
  pub opens : open_at (log_in move.state) ≡ open_after_all (open_at (log_in s)) move.facts

-- what a restart makes of records that fit is in range, with its log open where they leave it
pub record IsRestored {S : Type 0} (IsIn : S → Type 0) (log_in : S → LogState AnyValue) (open_then : ℕ) (s : S) : Type 0 where
  pub state : IsIn s
  pub opens : open_at (log_in s) ≡ open_then

-- a move by the laws of rows is one, whatever they say of who takes its packets
pub goes : {S : Type 0} (IsIn : S → Type 0) (log_in : S → LogState AnyValue) (GoesWell : Packet → Type 0) (t : Tier) (x : ℕ) (s : S) (move : Move S)
    → IsMoveTo IsIn log_in GoesWell t x s move → IsMoveOf IsIn log_in t x s move
goes IsIn log_in GoesWell t x s move k = record {
  state = k.state;
  sealable = k.sealable;
  few = k.few;
  short = k.short;
  facts = k.facts;
  opens = k.opens;
}
