use Rattle.std.proofs.Common.{◌≡◌, take}
use Rattle.round_model.specs.Shims.{new_shim}
use Rattle.server_shim.specs.Ranges.{IsShimIn}
use Rattle.tier_model.specs.BackRows.{after_values}
use Rattle.backend_node.specs.Backends.{back_with, backend_by}
use Rattle.backend_node.proofs.restoring.serve_again.Given as goal

abbrev pub invariant-loop-at : goal.invariant-loop-at
invariant-loop-at g l =
    (back_with l.log.state l.serving
    ≡ after_values (backend_by g.B.Backend.opening g.B.Backend.state_after g.B.Backend.code_of)
    (record { log = l.log.state; state = g.B.Backend.opening; shim = new_shim l.fn.member.faults }) (take l.at l.log.state.learned))
    × IsShimIn l.fn.member.faults l.serving.shim
