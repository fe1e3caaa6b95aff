use Rattle.std.proofs.Common.{◌≡◌, ◌≤◌}
use Rattle.log_model.specs.Log.{count_below}
use Rattle.round_model.specs.Lists.{is_some}
use Rattle.round_model.specs.Verdicts.{claim_of}
use Rattle.state_verify.proofs.tally.Tally.have.Given as goal

abbrev pub invariant-nodes : goal.invariant-nodes
invariant-nodes l = (l.count ≡ count_below l.node (λ node. is_some (claim_of l.self-inside.claims node))) × (l.count ≤ l.node)
