-- The log and the journal that a node of any tier has while it is up, beside what else it keeps.
use Rattle.std.specs.Prelude.{◌≡◌, ℕ, ◌+◌, ◌*◌, ◌<◌, ◌≤◌, length, Option, Some, None, IfSome}
use Rattle.std.specs.declared.boxed.Box.{Box}
use Rattle.std.specs.declared.alloc.Global.{Global}
use Rattle.aeg_base.specs.declared.limits.TheConstants.{MAX_FAULTS}
use Rattle.aeg_base.specs.declared.names.Tier.{Tier}
use Rattle.log_model.specs.declared.turn.LogTurn.{LogTurn}
use Rattle.log_model.specs.Log.{LogState, Turn}
use Rattle.log_model.specs.Ranges.{IsLogIn, IsTurnIn}
use Rattle.log_values.specs.declared.any_value.AnyValue.{AnyValue}
use Rattle.log_values.specs.Fields.{FitsBallot}
use Rattle.frames.specs.LogMessages.{IsCarried}
use Rattle.paxos_log.specs.TierLog.{NodeLog}
use Rattle.node_log.specs.declared.working.Working.{Working}
use Rattle.node_log.specs.Views.{View}

-- a node's log, and what else it keeps while it is up
pub record Standing (R : Type 0) : Type 0 where
  pub log : LogState AnyValue
  pub rest : R

abbrev pub standing_in : {R : Type 0} → Working R → Standing R
standing_in w = record { log = w.log.state; rest = w.rest }

-- up with these, or down
abbrev pub standing_of : {R : Type 0} → Option (Box (Working R) Global) → Option (Standing R)
standing_of None = None
standing_of (Some up) = Some (standing_in up.value)

-- the place of the gate that ends the journal
abbrev pub place_by : {R : Type 0} → Option (Box (Working R) Global) → ℕ → ℕ
place_by None known = known
place_by (Some up) known = up.value.journal

-- this node's own log, with values that frames of its tier can carry
pub record IsOwnLog (u : ℕ) (t : Tier) (x : ℕ) (log : NodeLog AnyValue) : Type 0 where
  pub faults : log.faults ≡ u
  pub me : log.me ≡ x
  pub range : IsLogIn (IsCarried t) FitsBallot log.state

-- a node of a tier of 2u+1, which is down or has its own log
pub record IsLogNode {R : Type 0} (u : ℕ) (t : Tier) (x : ℕ) (up : Option (Box (Working R) Global)) : Type 0 where
  pub few : u ≤ MAX_FAULTS
  pub node : x < 2 * u + 1
  pub own : IfSome up (λ at_work. IsOwnLog u t x at_work.value.log)

-- it was up with log, journal and rest, which a call has taken
pub record WasAtWork {R : Type 0} (v : View (Standing R)) (w : Working R) : Type 0 where
  pub few : v.faults ≤ MAX_FAULTS
  pub node : v.me < 2 * v.faults + 1
  pub up : v.up ≡ Some (standing_in w)
  pub place : v.place ≡ w.journal
  pub log : IsOwnLog v.faults v.tier v.me w.log

-- what a call has in hand of a node that it took down
pub record IsInHand {R : Type 0} (v : View (Standing R)) (w : Working R) : Type 0 where
  pub down : v.up ≡ None
  pub place : v.place ≡ w.journal
  pub log : IsOwnLog v.faults v.tier v.me w.log

-- the turn that a call of the log told, with the state that it left
abbrev pub whole_turn : LogState AnyValue → LogTurn AnyValue → Turn AnyValue
whole_turn log out = record { state = log; facts = out.facts; sends = out.sends; learned = out.learned; idle = out.idle }

-- what a turn of a node's log does: it is in range, and at most one fact is written
pub record IsLogTurn (u : ℕ) (t : Tier) (turn : Turn AnyValue) : Type 0 where
  pub range : IsTurnIn u (IsCarried t) FitsBallot turn
  pub few : length turn.facts ≤ 1
