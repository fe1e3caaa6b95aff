use Rattle.std.proofs.Common.{◌≡◌, ℕ, ◌≤◌, ◌-◌, length}
use Rattle.one_server.specs.Places.{slot_at}
use Rattle.one_server.proofs.numbering.fill.Given as goal

-- only empty slots were added
abbrev pub invariant-loop-slots : goal.invariant-loop-slots
invariant-loop-slots l = ((q : ℕ) → slot_at l.slots.items q ≡ slot_at l.fn.slots.items q) × (length l.slots.items ≤ l.count)

abbrev pub decreases-loop-slots : goal.decreases-loop-slots
decreases-loop-slots l = l.count - length l.slots.items
