use Rattle.std.proofs.Common.{◌≡◌, subst, sym}
use Rattle.std.specs.Prelude.{IfOk}
use Rattle.log_values.specs.declared.any_value.AnyValue.TheVariants.{Back as OfBack}
use Rattle.backend_node.specs.Backends.{answer_by, back_with, backend_by}
use Rattle.log_values.specs.Values.{FitsBack}
use Rattle.backend_node.proofs.Values.{settled}
use Rattle.backend_node.proofs.serving.Serving.learn_back.Goals as goal

pub returns-in-Settle-clause-range : goal.returns-in-Settle-clause-range
returns-in-Settle-clause-range g c u range =
    settled u c.args.self.now.shim c.settle.new.self c.in-Settle.floor (subst FitsBack c.in-Settle.is c.requires.fits) c.settle.ensures.after range

pub returns-in-Call-clause-answer : goal.returns-in-Call-clause-answer
returns-in-Call-clause-answer g c log = subst
    (λ value. IfOk c.serve.result (λ answer. answer ≡ answer_by (backend_by g.B.Backend.opening g.B.Backend.state_after g.B.Backend.code_of)
    (back_with log c.args.self.now) (OfBack value))) (sym c.in-Call.is) (c.serve.ensures.answer log)
