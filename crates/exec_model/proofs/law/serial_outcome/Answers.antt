use Rattle.exec_model.proofs.Outcome.{run_job-order, run_job-store, run_job-ends, run_job-steps}
use Rattle.exec_model.proofs.law.serial_outcome.Goals as goal

pub returns-clause-order : goal.returns-clause-order
returns-clause-order c = run_job-order

pub returns-clause-store : goal.returns-clause-store
returns-clause-store c = run_job-store

pub returns-clause-ends : goal.returns-clause-ends
returns-clause-ends c = run_job-ends

pub returns-clause-steps : goal.returns-clause-steps
returns-clause-steps c = run_job-steps
