use Rattle.std.proofs.Common.{◌∙◌, ap, arith}
use Rattle.aeg_base.specs.Store.{value_at}
use Rattle.aeg_base.proofs.StoreLaws.{value_at-empty}
use Rattle.base_calls.proofs.booking_jobs.blank.Goals as goal

pub returns : goal.returns
returns c = λ k. let e = ap (λ s. value_at s k) c.new.ensures.map ∙ value_at-empty k in omega arith
