use Rattle.rollback.specs.Runs.{WasRun}
use Rattle.base_calls.proofs.speculative_runs.run_made.Goals as goal

pub returns-clause-was : goal.returns-clause-was
returns-clause-was g c = record {
  begins = g.S.Service.beginning c.args.svc.now;
  proper = λ who body stage asked. g.met.S.Service.proper c.args.svc.now who body stage asked;
  each = c.requires.begins;
  few = c.requires.few;
  start = c.args.store.now.map;
  numbers = c.requires.numbers;
  finish = c.run_by.new.store.map;
  schedule = c.deref.result.now;
  made = c.in_ok-ran.ensures.ran;
}
