use Rattle.std.proofs.Common.{◌≡◌, ◌+◌, drop, length}
use Rattle.applied_rounds.specs.ClientsAfter.{all_ended}
use Rattle.applied_rounds.proofs.clients_after.end_all.Given as goal

abbrev pub invariant-segments : goal.invariant-segments
invariant-segments l =
    (all_ended l.clients (drop l.i l.segs) l.replies.items ≡ all_ended l.initial.clients l.segs l.fn.replies.items)
    × (length l.replies.items + l.i ≡ length l.segs)
