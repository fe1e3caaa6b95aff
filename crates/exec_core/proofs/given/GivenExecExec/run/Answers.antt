use Rattle.kv_store.specs.Stores.{Holding}
use Rattle.exec_model.specs.Jobs.{run_job}
use Rattle.exec_core.specs.declared.ran.Ran.{Ran}
use Rattle.exec_core.specs.Jobs.{IsRan}
use Rattle.exec_core.proofs.Replays.{replayed, if_kept}
use Rattle.exec_core.proofs.given.GivenExecExec.run.Goals as goal

pub returns-clause-ran : goal.returns-clause-ran
returns-clause-ran g c =
    let begins = g.S.Service.beginning c.args.svc.now in
    let segs = c.args.job.now.segs in
    let s = c.args.store.now.map in
    if_kept (λ (t : Holding) (ran : Ran). IsRan s t.map (run_job begins segs s ran.steps) ran) c.in_ok-ran.ran c.run_by.new.store c.note.new.store c.note.result
    c.note.ensures.ran c.note.ensures.store
    (replayed begins segs s c.run_by.new.store.map c.deref.result.now c.in_ok-ran.ran c.in_ok-ran.ensures.ran)
