use Rattle.std.proofs.Common.{◌≡◌, List, sym, ◌∙◌, subst}
use Rattle.std.proofs.lemmas.Option.{same_Some}
use Rattle.log_values.specs.declared.fact.Fact.{Fact}
use Rattle.fact_journal.specs.Fitting.{FactsFit}
use Rattle.fact_journal.proofs.Fits.{written}
use Rattle.fact_journal.proofs.reading.take_record.Goals as goal

pub returns-in_default : goal.returns-in_default
returns-in_default c = λ r e some fit.
    c.in_default.not-Some r (c.in_ok-record.ensures.only r (record { fit = (some, written c.args.tier c.args.first r fit); parts = c.items.ensures ∙ e }))

pub returns-in_default-open_behind_all : goal.returns-in_default-open_behind_all
returns-in_default-open_behind_all c = λ r e some fit.
    let found = c.in_ok-record.ensures.only r (record { fit = (some, written c.args.tier c.args.first r fit); parts = c.items.ensures ∙ e }) in
    let same : c.in-Some.record ≡ r = same_Some c.in-Some.record r (sym c.in-Some.is ∙ found) in
    c.in_default-open_behind_all.ensures (subst (λ (l : List Fact). FactsFit c.args.tier c.args.first l) (sym (c.facts.ensures ∙ same)) fit)
