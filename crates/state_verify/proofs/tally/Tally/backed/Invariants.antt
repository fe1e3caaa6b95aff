use Rattle.std.proofs.Common.{◌≡◌, None}
use Rattle.round_model.specs.Lists.{lowest}
use Rattle.round_model.specs.Verdicts.{claim_of, is_backed}
use Rattle.state_verify.proofs.tally.Tally.backed.Given as goal

abbrev pub invariant-nodes : goal.invariant-nodes
invariant-nodes l = lowest l.node (λ node. is_backed l.self.faults l.self.claims (claim_of l.self.claims node)) ≡ None
