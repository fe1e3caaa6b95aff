use Rattle.std.proofs.Common.{rules, refl, subst}
use Rattle.std.specs.Prelude.{IfOk}
use Rattle.aeg_base.specs.Store.{Store}
use Rattle.kv_store.specs.Stores.{unwound}
use Rattle.rollback.specs.Settled.{Settled}
use Rattle.rollback.proofs.Commits.{kept}
use Rattle.rollback.proofs.spec.Spec.settle.Goals as goal

pub returns-then-agreed-clause-settled : goal.returns-then-agreed-clause-settled
returns-then-agreed-clause-settled g c =
    kept (g.S.Service.beginning c.args.svc.now) c.args.self.job.segs c.args.verdict.now c.args.self.token
    (unwound c.args.self.ran.undo.entries c.args.store.now.map) c.args.store.now.map c.args.self.ran.outcome
    (c.if-agreed.ensures.yes refl) c.args.self.told c.requires.left.pairs

-- the verdict is applied to what undoing gives
pub returns : goal.returns
returns g c = record {
  kept = λ own. absurd (c.if-agreed.ensures.no refl own);
  settled = subst (λ (s : Store). IfOk c.settle_cold.result
      (Settled (g.S.Service.beginning c.args.svc.now) c.args.self.job.segs c.args.verdict.now s
      c.settle_cold.new.store.map)) c.undo.ensures.map c.settle_cold.ensures.settled;
  undone = search rules;
}
