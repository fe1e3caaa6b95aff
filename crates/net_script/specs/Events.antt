-- What holds of each event of a script.
use Rattle.std.specs.Prelude.{◌≡◌, ℕ, ◌≤◌, ◌<◌, Bool, true, false, List, Option, None, Some, length}
use Rattle.std.specs.List.{All}
use Rattle.aeg_base.specs.declared.limits.TheConstants.{PACKETS, MAX_FAULTS, MAX_DEPTH}
use Rattle.aeg_base.specs.declared.names.End.{End}
use Rattle.aeg_base.specs.declared.names.End.TheVariants.{Node, Client}
use Rattle.run_model.specs.declared.line.Event.{Event}
use Rattle.run_model.specs.declared.line.Event.TheVariants.{Submit, Deliver, Short, Cut, Lead, Offer, Retry, Work, Crash, Restart, Wipe, Flow, Calm, Lose}
use Rattle.run_model.specs.declared.line.CutLine.{CutLine}
use Rattle.run_model.specs.declared.line.CutLine.TheVariants as cuts
use Rattle.run_model.specs.Script.{Numbered, is_placed, is_asked}
use Rattle.log_values.specs.Fields.{IsClient}

abbrev pub IsEnd : End → Type 0
IsEnd (Node n) = Unit {0}
IsEnd (Client client) = IsClient client

abbrev pub IsCutInRange : CutLine → Type 0
IsCutInRange (cuts.Deliver packet) = packet < PACKETS
IsCutInRange (cuts.Lead n) = Unit {0}
IsCutInRange (cuts.Offer n) = Unit {0}

-- a segment, and how often it stands
abbrev pub IsItem : ℕ × ℕ → Type 0
IsItem item = (item.0 < 32) × ((1 ≤ item.1) × (item.1 ≤ 1024))

abbrev pub IsSchedule : Option (List (ℕ × ℕ)) → Type 0
IsSchedule None = Unit {0}
IsSchedule (Some items) = (1 ≤ length items) × ((length items ≤ 1024) × All IsItem items)

-- each number of the event is in its range
abbrev pub IsInRange : Event → Type 0
IsInRange (Submit client body) = IsClient client
IsInRange (Deliver packet) = packet < PACKETS
IsInRange (Short packet bytes) = (packet < PACKETS) × (bytes ≤ 8198)
IsInRange (Cut nth keep line) = (1 ≤ nth) × ((nth ≤ 4) × IsCutInRange line)
IsInRange (Lead n) = Unit {0}
IsInRange (Offer n) = Unit {0}
IsInRange (Retry end) = IsEnd end
IsInRange (Work n by) = IsSchedule by
IsInRange (Crash n) = Unit {0}
IsInRange (Restart n) = Unit {0}
IsInRange (Wipe n) = Unit {0}
IsInRange Flow = Unit {0}
IsInRange Calm = Unit {0}
IsInRange Lose = Unit {0}

-- So far nodes run no jobs: the line asks for none.
abbrev pub is_playable : Event → Bool
is_playable (Submit client body) = true
is_playable (Deliver packet) = true
is_playable (Short packet bytes) = true
is_playable (Cut nth keep line) = true
is_playable (Lead n) = true
is_playable (Offer n) = true
is_playable (Retry end) = true
is_playable (Work n by) = false
is_playable (Crash n) = true
is_playable (Restart n) = true
is_playable (Wipe n) = true
is_playable Flow = true
is_playable Calm = false
is_playable Lose = true

abbrev pub IsPlayable : Event → Type 0
IsPlayable event = is_playable event ≡ true

-- its nodes are in tiers of 2u+1, what is submitted is a request, its numbers are in their ranges, and it can be played
pub record IsProper (u : ℕ) (event : Event) : Type 0 where
  pub placed : is_placed u event ≡ true
  pub asked : is_asked event ≡ true
  pub in_range : IsInRange event
  pub playable : IsPlayable event

-- the sizes that a header can have
abbrev pub AreSizes : ℕ → ℕ → Type 0
AreSizes u depth = (u ≤ MAX_FAULTS) × ((1 ≤ depth) × (depth ≤ MAX_DEPTH))

abbrev pub AreProper : ℕ → List Numbered → Type 0
AreProper u events = All (λ event. IsProper u event.1) events
