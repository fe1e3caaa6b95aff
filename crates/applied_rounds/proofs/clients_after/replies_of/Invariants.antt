use Rattle.std.proofs.Common.{◌≡◌, map, take}
use Rattle.round_model.specs.Tables.{kept_by}
use Rattle.applied_rounds.proofs.clients_after.replies_of.Given as goal

abbrev pub invariant-loop-ending : goal.invariant-loop-ending
invariant-loop-ending l = l.replies.items ≡ map kept_by (take l.ending-index l.ends)
