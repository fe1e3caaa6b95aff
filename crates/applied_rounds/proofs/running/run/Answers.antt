use Rattle.applied_rounds.proofs.Runs.{was_run, run_stands}
use Rattle.applied_rounds.proofs.running.run.Goals as goal

pub keep-requires-clause-ran : goal.keep-requires-clause-ran
keep-requires-clause-ran g c =
    was_run (g.S.Service.beginning c.args.svc.now) c.args.job c.args.store.now.map c.run.new.store.map c.in_ok-ran.ran
    (λ who body stage asked. g.met.S.Service.proper c.args.svc.now who body stage asked) c.requires.begins c.requires.few c.requires.store
    c.in_ok-ran.ensures.ran

pub returns-in_ok-spec-in-Ok-clause-stands : goal.returns-in_ok-spec-in-Ok-clause-stands
returns-in_ok-spec-in-Ok-clause-stands g c =
    run_stands (g.S.Service.beginning c.args.svc.now) c.args.job c.args.store.now.map c.run.new.store c.keep.new.store c.in_ok-ran.ran c.in_ok-spec-in-Ok.spec
    c.in_ok-ran.ensures.ran c.in_ok-ran.ensures.room c.in_ok-spec-in-Ok.ensures.store c.in_ok-spec-in-Ok.ensures.job c.in_ok-spec-in-Ok.ensures.ran
