use Rattle.std.proofs.Common.{◌∙◌, ap}
use Rattle.rollback.specs.Settled.{told}
use Rattle.rollback.proofs.Commits.{told_spelled}
use Rattle.rollback.proofs.Fits.{run_fits}
use Rattle.rollback.proofs.spec.Spec.begin.Goals as goal

pub invariant_of-result : goal.invariant_of-result
invariant_of-result c = let fits = run_fits c.args.job c.args.ran
    c.requires.ran in record { told = ap told c.in-Ok.ensures ∙ told_spelled c.args.ran.outcome fits }

pub encode_outcome-requires : goal.encode_outcome-requires
encode_outcome-requires c = run_fits c.args.job c.args.ran c.requires.ran
