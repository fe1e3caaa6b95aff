use Rattle.svc_api.proofs.Fronts.{ComesBy-here, OnErr-any}
use Rattle.svc_api.proofs.segment.run_segment.Goals as goal

-- the program gave no action: the cells are as at the start of the turn
pub returns-in_err-key-clause-front : goal.returns-in_err-key-clause-front
returns-in_err-key-clause-front g c =
    let here = ComesBy-here (g.P.Program.plan c.actions.prog c.actions.last) (g.C.Cells.store c.actions.cells)
    in OnErr-any _ c.from_residual.result (c.actions.invariant.front (g.C.Cells.store c.actions.cells) here)
