use Rattle.std.proofs.Common.{◌≡◌, refl, subst}
use Rattle.std.specs.Prelude.{IfOk}
use Rattle.round_model.specs.Tables.{batch_of}
use Rattle.applied_rounds.specs.States.{AppliedState, programs_of}
use Rattle.applied_rounds.proofs.applied.Applied.batch.Goals as goal

pub returns : goal.returns
returns g c =
    let m = programs_of (g.S.Service.table c.args.svc.now) (g.S.Service.beginning c.args.svc.now) in
    subst (λ (z : AppliedState). IfOk c.make_batch_in.result (λ batch. batch.items ≡ batch_of m z.tables c.args.pending.now)) c.self.view_is
    (c.make_batch_in.ensures m _ refl c.self.invariant.clients_agree)
