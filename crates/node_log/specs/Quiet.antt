-- Calls that come to nothing.
use Rattle.std.specs.Prelude.{◌≡◌, ℕ, Bool, true, false, List, [], IfSome}
use Rattle.aeg_base.specs.declared.names.End.{End}
use Rattle.aeg_disk.specs.Disk.{DiskState}
use Rattle.log_model.specs.Log.{LogState, Turn, idles}
use Rattle.log_values.specs.declared.any_value.AnyValue.{AnyValue}
use Rattle.tier_model.specs.declared.turn.Turn.{Turn as Answer}
use Rattle.tier_model.specs.declared.turn.Turn.TheVariants.{Did, Ran, Dropped, Idle}
use Rattle.tier_model.specs.Moves.{Move}
use Rattle.node_log.specs.Views.{View}

-- a packet was dropped, or the node was idle
abbrev pub is_quiet : Answer → Bool
is_quiet Did = false
is_quiet (Ran note) = false
is_quiet (Dropped refused) = true
is_quiet (Idle cause) = true

-- node, disk and packets are as they were
pub record IsUnmoved {S : Type 0} (old new : View S) (disk_before disk_after : DiskState) (before after : List (End × List ℕ)) : Type 0 where
  pub node : new ≡ old
  pub disk : disk_after ≡ disk_before
  pub packets : after ≡ before

-- where its answer is a quiet one, the move of the state changes, writes and sends nothing
pub record IsQuietFrom {S : Type 0} (s : S) (move : Move S) : Type 0 where
  pub state : is_quiet move.answer ≡ true → move.state ≡ s
  pub facts : is_quiet move.answer ≡ true → move.facts ≡ []
  pub sends : is_quiet move.answer ≡ true → move.sends ≡ []

-- a turn of a log that tells why nothing happens does nothing
pub record IsIdleTurn (log : LogState AnyValue) (turn : Turn AnyValue) : Type 0 where
  pub nothing : IfSome turn.idle (λ why. turn ≡ idles log why)
