use Rattle.rollback.proofs.Commits.{reads_of}
use Rattle.rollback.proofs.Fits.{run_fits}
use Rattle.rollback.specs.Views.{token_of}
use Rattle.base_calls.proofs.speculative_runs.begun.Goals as goal

-- the run's own token reads as its outcome
pub returns-in-Ok-clause-reads : goal.returns-in-Ok-clause-reads
returns-in-Ok-clause-reads c =
    let run = c.requires in
    reads_of run.begins c.args.job.segs run.start run.finish run.schedule c.args.ran (token_of c.in-Ok.spec) run.made
    c.in-Ok.ensures.token (run_fits c.args.job c.args.ran run)
