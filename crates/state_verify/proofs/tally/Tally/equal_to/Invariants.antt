use Rattle.std.proofs.Common.{◌≡◌, ◌≤◌}
use Rattle.log_model.specs.Log.{count_below}
use Rattle.round_model.specs.Verdicts.{claim_of, has_token}
use Rattle.state_verify.proofs.tally.Tally.equal_to.Given as goal

abbrev pub invariant-nodes : goal.invariant-nodes
invariant-nodes l = (l.count ≡ count_below l.node (λ node. has_token l.token (claim_of l.self-inside.claims node))) × (l.count ≤ l.node)
