-- What a middle and a backend node share: a log in memory, in range, and its journal.
use Rattle.std.specs.Prelude.{◌≡◌, ℕ, ◌+◌, ◌*◌, ◌<◌, ◌≤◌, Bool, true, false, List, ◌++◌, map, slice_get, Option, Some, None, IfSome}
use Rattle.std.specs.declared.result.Result.{Result}
use Rattle.std.specs.declared.boxed.Box.{Box}
use Rattle.std.specs.declared.alloc.Global.{Global}
use Rattle.aeg_base.specs.declared.limits.TheConstants.{MAX_FAULTS}
use Rattle.aeg_base.specs.declared.names.End.{End}
use Rattle.aeg_base.specs.declared.names.Tier.{Tier}
use Rattle.aeg_base.specs.declared.names.Tier.TheVariants as tiers
use Rattle.log_model.specs.declared.message.PaxMsg.{PaxMsg}
use Rattle.log_model.specs.declared.turn.LogTurn.{LogTurn}
use Rattle.log_model.specs.declared.turn.Offering.{Offering}
use Rattle.log_model.specs.declared.turn.Offering.TheVariants.{NotLeader, NoPromises, InFlight, LogFull, Taken, Free}
use Rattle.log_model.specs.Log.{LogState, Turn, open_at}
use Rattle.log_model.specs.Ranges.{IsLogIn, IsTurnIn, IsOwnIn}
use Rattle.log_model.specs.Nodes.{Mode}
use Rattle.log_model.specs.Nodes.Mode.{Up, Down, Gone}
use Rattle.log_values.specs.declared.any_value.AnyValue.{AnyValue}
use Rattle.log_values.specs.declared.entry.Entry.{Entry}
use Rattle.log_values.specs.Fields.{FitsBallot}
use Rattle.frames.specs.declared.message.Msg.TheVariants.{Log}
use Rattle.tier_model.specs.declared.turn.Turn.{Turn as Answer}
use Rattle.tier_model.specs.declared.turn.Fault.{Fault}
use Rattle.aeg_disk.specs.Disk.{DiskState, Later}
use Rattle.frames.specs.Frames.{frame}
use Rattle.paxos_log.specs.TierLog.{NodeLog}
use Rattle.world.specs.declared.nodes.working.Working.{Working}
use Rattle.tier_model.specs.MidRows.{own_value}
use Rattle.run_model.specs.BookingRuns.{booking_service}
use Rattle.tier_model.specs.Moves.{Move, node, log_packets, as_fact, log_answer}
use Rattle.world.specs.Parts.{CanStand, NodePart, MidPart, MidView, as_mid, Makes, Wrote, goes_down, sealed}

-- of which tier it is and with which index, in a tier of 2 * faults + 1
pub record LogView : Type 0 where
  pub faults : ℕ
  pub tier : Tier
  pub me : ℕ
  pub part : NodePart (LogState AnyValue)

-- up with this log in memory, or gone, or down
abbrev pub mode_of : Option (Box Working Global) → Bool → Mode (LogState AnyValue)
mode_of (Some up) gone = Up up.value.log.state
mode_of None true = Gone
mode_of None false = Down

-- the place of the gate that ends the journal
abbrev pub place_by : Option (Box Working Global) → ℕ → ℕ
place_by (Some up) known = up.value.journal
place_by None known = known

-- this node's own log, in range
pub record IsOwnLog (u : ℕ) (t : Tier) (x : ℕ) (log : NodeLog AnyValue) : Type 0 where
  pub faults : log.faults ≡ u
  pub me : log.me ≡ x
  pub range : IsLogIn (CanStand t) FitsBallot log.state

-- a node that is up is neither gone nor in doubt
pub record IsAtWork (u : ℕ) (t : Tier) (x : ℕ) (gone doubt : Bool) (up : Working) : Type 0 where
  pub here : gone ≡ false
  pub sure : doubt ≡ false
  pub log : IsOwnLog u t x up.log

pub record IsLogNode (u : ℕ) (t : Tier) (x : ℕ) (gone doubt : Bool) (up : Option (Box Working Global)) : Type 0 where
  pub few : u ≤ MAX_FAULTS
  pub node : x < 2 * u + 1
  pub own : IfSome up (λ at_work. IsAtWork u t x gone doubt at_work.value)

-- a node of which a call has taken log and journal, until they are put back
abbrev pub without_log : LogView → LogView
without_log n = record { faults = n.faults; tier = n.tier; me = n.me; part = goes_down n.part }

-- it was up with them, and in no doubt
pub record WasAtWork (n : LogView) (up : Working) : Type 0 where
  pub few : n.faults ≤ MAX_FAULTS
  pub node : n.me < 2 * n.faults + 1
  pub mode : n.part.mode ≡ Up up.log.state
  pub place : n.part.place ≡ up.journal
  pub sure : n.part.doubt ≡ false
  pub log : IsOwnLog n.faults n.tier n.me up.log

-- what is known of the log in memory
abbrev pub IsRanged : LogView → Type 0
IsRanged n = (log : LogState AnyValue) → n.part.mode ≡ Up log → IsLogIn (CanStand n.tier) FitsBallot log

-- the turn that a call told, with the state that it left
abbrev pub whole_turn : LogState AnyValue → LogTurn AnyValue → Turn AnyValue
whole_turn log out = record { state = log; facts = out.facts; sends = out.sends; learned = out.learned; idle = out.idle }

-- the turn as a move of the node's log alone
abbrev pub log_move : Tier → ℕ → Turn AnyValue → Move (LogState AnyValue)
log_move t x turn = record { state = turn.state; facts = map as_fact turn.facts; sends = log_packets t x turn.sends; answer = log_answer turn.idle }

abbrev pub log_itself : LogState AnyValue → LogState AnyValue
log_itself log = log

abbrev pub MakesTurn : LogView → LogView → List (End × List ℕ) → List (End × List ℕ) → Turn AnyValue → Result Answer Fault → Type 0
MakesTurn old new before after turn result = Makes log_itself old.part new.part before after (log_move old.tier old.me turn) result

-- its facts were written down before
abbrev pub WritesTurn : LogView → LogView → DiskState → DiskState → Turn AnyValue → Result Answer Fault → Type 0
WritesTurn old new disk_before disk_after turn result = Wrote disk_before disk_after old.part.place new.part.place (log_move old.tier old.me turn).facts result

abbrev pub IsSameNode : LogView → LogView → Type 0
IsSameNode old new = (new.faults ≡ old.faults) × ((new.tier ≡ old.tier) × (new.me ≡ old.me))

-- a call made this turn of its log, in range
pub record Turns (old new : LogView) (disk_before disk_after : DiskState) (before after : List (End × List ℕ))
    (turn : LogState AnyValue → Turn AnyValue) (result : Result Answer Fault) : Type 0 where
  pub row : (log : LogState AnyValue) → old.part.mode ≡ Up log → MakesTurn old new before after (turn log) result
  pub disk : (log : LogState AnyValue) → old.part.mode ≡ Up log → WritesTurn old new disk_before disk_after (turn log) result
  pub later : Later disk_before disk_after
  pub range : (log : LogState AnyValue) → old.part.mode ≡ Up log → IsTurnIn old.faults (CanStand old.tier) FitsBallot (turn log)
  pub same : IsSameNode old new

-- a middle node's part: its log, and its pending entries while it is up
abbrev pub mid_mode : Mode (LogState AnyValue) → List (Option Entry) → Mode MidPart
mid_mode (Up log) pending = Up (record { log = log; pending = pending })
mid_mode Down pending = Down
mid_mode Gone pending = Gone

abbrev pub mid_part : NodePart (LogState AnyValue) → List (Option Entry) → NodePart MidPart
mid_part part pending = record { mode = mid_mode part.mode pending; place = part.place; doubt = part.doubt }

-- the own value of a middle node that is up can stand at its first open position
abbrev pub OwnStands : MidView → Type 0
OwnStands m = (part : MidPart) → m.part.mode ≡ Up part
    → IsOwnIn (CanStand tiers.Mid) (open_at part.log)
    (own_value m.faults booking_service.programs (as_mid m.faults m.me m.depth part))

-- the last packets are those of these messages
abbrev pub HasSent : Tier → ℕ → List (ℕ × PaxMsg AnyValue) → List (End × List ℕ) → Type 0
HasSent t x sends sent = (before : List (End × List ℕ)) × (sent ≡ before ++ map sealed (log_packets t x sends))

-- the bytes are the frame of the message with this number
abbrev pub IsFrameAt : Tier → ℕ → List (ℕ × PaxMsg AnyValue) → ℕ → List ℕ → Type 0
IsFrameAt t x sends i bytes = (send : ℕ × PaxMsg AnyValue) → slice_get sends i ≡ Some send → bytes ≡ frame (node t x) (Log send.1)

-- a leader that may offer a value of its own, since none was reported
abbrev pub needs_own : Offering → Bool
needs_own NotLeader = false
needs_own (NoPromises have) = false
needs_own (InFlight p) = false
needs_own LogFull = false
needs_own Taken = false
needs_own (Free p) = true
