use Rattle.exec_model.proofs.Outcome.{run_job-spelled}
use Rattle.exec_model.proofs.law.whole_segments.Goals as goal

pub returns-clause-order : goal.returns-clause-order
returns-clause-order c begins segs s os m o = (run_job-spelled begins segs s os m o).0

pub returns-clause-redo : goal.returns-clause-redo
returns-clause-redo c begins segs s os m o = (run_job-spelled begins segs s os m o).1

pub returns-clause-steps : goal.returns-clause-steps
returns-clause-steps c begins segs s os m o = (run_job-spelled begins segs s os m o).2
