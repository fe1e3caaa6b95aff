use Rattle.std.proofs.Common.{◌∙◌, ap}
use Rattle.aeg_base.specs.Numbers.{with_number}
use Rattle.server_model.specs.Backends.{Amounts}
use Rattle.backend_svc.proofs.LedgerLaws.{amounts_of-updated}
use Rattle.backend_svc.proofs.ledger.Ledger.put.Goals as goal

pub returns-clause-ok : goal.returns-clause-ok
returns-clause-ok c =
    amounts_of-updated c.self.inside.amounts.entries c.insert.new.self.entries c.args.at c.args.amount c.in_ok-insert.ensures.updates.0
    ∙ ap (λ (m : Amounts). with_number m c.args.at c.args.amount) c.self.view_is
