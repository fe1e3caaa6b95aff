use Rattle.std.proofs.Common.{◌∙◌, ap, sym, unwrap_or}
use Rattle.server_model.specs.Backends.{Amounts, amount_at}
use Rattle.backend_svc.proofs.LedgerLaws.{amount_at-amounts_of}
use Rattle.backend_svc.proofs.ledger.Ledger.held.Goals as goal

pub returns-in-Some : goal.returns-in-Some
returns-in-Some c =
    ap (λ o. unwrap_or o 0) c.in-Some.ensures.value
    ∙ sym (amount_at-amounts_of c.self.inside.amounts.entries c.args.at)
    ∙ ap (λ (m : Amounts). amount_at m c.args.at) c.self.view_is

pub returns-in-None : goal.returns-in-None
returns-in-None c =
    ap (λ o. unwrap_or o 0) c.in-None.ensures.value
    ∙ sym (amount_at-amounts_of c.self.inside.amounts.entries c.args.at)
    ∙ ap (λ (m : Amounts). amount_at m c.args.at) c.self.view_is
