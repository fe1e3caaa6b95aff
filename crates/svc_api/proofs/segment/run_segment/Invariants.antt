use Rattle.std.proofs.Common.{◌≡◌}
use Rattle.aeg_base.specs.Store.{Store}
use Rattle.svc_api.specs.Plan.{store_after, ending_of, ComesBy}
use Rattle.svc_api.proofs.segment.run_segment.Given as goal

-- what is left comes to what the whole segment comes to, and comes by stores that the whole segment comes by
abbrev pub invariant-actions : goal.invariant-actions
invariant-actions g l = record {
  ending : ending_of (g.P.Program.plan l.fn.prog l.fn.answer) (g.C.Cells.store l.fn.cells)
      ≡ ending_of (g.P.Program.plan l.prog l.last) (g.C.Cells.store l.cells);
  store : store_after (g.P.Program.plan l.fn.prog l.fn.answer) (g.C.Cells.store l.fn.cells)
      ≡ store_after (g.P.Program.plan l.prog l.last) (g.C.Cells.store l.cells);
  front : (t : Store) → ComesBy (g.P.Program.plan l.prog l.last) (g.C.Cells.store l.cells) t
      → ComesBy (g.P.Program.plan l.fn.prog l.fn.answer) (g.C.Cells.store l.fn.cells) t;
  kept : g.C.Cells.start l.cells ≡ g.C.Cells.start l.fn.cells;
}

abbrev pub decreases-actions : goal.decreases-actions
decreases-actions g l = g.P.Program.budget l.prog
