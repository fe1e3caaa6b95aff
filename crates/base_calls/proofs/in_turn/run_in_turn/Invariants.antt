use Rattle.base_calls.proofs.in_turn.run_in_turn.Given as goal

-- the task is this call's
abbrev pub ghosts-run_task : goal.ghosts-run_task
ghosts-run_task g a = record {
  begins = g.S.Service.beginning a.svc.now;
  segs = a.job.now.segs;
  start = a.store.now.map;
}
