use Rattle.std.proofs.Common.{sym, ap, ◌∙◌, unwrap_or}
use Rattle.aeg_base.specs.Store.{value_at}
use Rattle.one_server.proofs.WriteLaws.{newest_here, newest_before}
use Rattle.one_server.proofs.draft.newest.Goals as goal
use Rattle.one_server.proofs.draft.newest.Goals.{then-eq, else-eq}

pub loop-write-preserved : goal.loop-write-preserved
loop-write-preserved c =
    elim c.if-eq.branch [
      | then-eq w ↦ λ s.
          newest_here s c.args.writes.now c.loop-write.write-index c.write-item.result c.args.key c.loop-write-test.true
          c.write-item.is (sym c.eq.ensures ∙ w.if-eq.true)
          ∙ ap (λ f. unwrap_or f (value_at s c.args.key)) (sym w.found-is)
      | else-eq w ↦ λ s.
          newest_before s c.args.writes.now c.loop-write.write-index c.write-item.result c.args.key
          c.loop-write-test.true c.write-item.is (sym c.eq.ensures ∙ w.if-eq.false)
          ∙ c.loop-write.invariant s ∙ ap (λ f. unwrap_or f (value_at s c.args.key)) (sym w.found-is)
    ]
