use Rattle.std.proofs.Common.{◌≡◌, ◌≤◌, take}
use Rattle.server_model.specs.Words.{value_of}
use Rattle.server_model.proofs.words.value_up_to.Given as goal

abbrev pub invariant-loop-b : goal.invariant-loop-b
invariant-loop-b l = (l.value ≡ value_of (take l.b-index l.word)) × (l.value ≤ l.high)
