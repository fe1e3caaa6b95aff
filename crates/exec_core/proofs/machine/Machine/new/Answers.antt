use Rattle.std.proofs.Common.{◌∙◌, ap, get_or}
use Rattle.exec_core.proofs.Ends.{no_holder}
use Rattle.exec_core.proofs.machine.Machine.new.Goals as goal

pub returns-clause-free : goal.returns-clause-free
returns-clause-free g c l = ap (λ xs. get_or xs l 0) (c.in_ok-owner.ensures.items_if_clones_equal (λ y e. e)) ∙ no_holder 256 l
