use Rattle.std.proofs.Common.{ap, ◌∙◌}
use Rattle.one_server.specs.Writes.{after}
use Rattle.one_server.proofs.WriteLaws.{after-append}
use Rattle.one_server.proofs.draft.DraftCells.put.Goals as goal

pub returns-clause-ok : goal.returns-clause-ok
returns-clause-ok g c =
    ap (after (g.C.Cells.store c.args.self.now.base.now)) c.in_ok-push.ensures.items
    ∙ after-append (g.C.Cells.store c.args.self.now.base.now) c.args.self.now.writes.items _
