use Rattle.std.proofs.Common.{refl}
use Rattle.applied_rounds.specs.States.{programs_of, start_of, tables_of}
use Rattle.applied_rounds.proofs.Fresh.{seen_fresh}
use Rattle.applied_rounds.proofs.applied.Applied.can_apply.Goals as goal

pub settled_job-requires : goal.settled_job-requires
settled_job-requires g c =
    let i = c.self.inside in
    let m = programs_of (g.S.Service.table c.args.svc.now) (g.S.Service.beginning c.args.svc.now) in
    let T = tables_of (start_of i.run i.store.map) i.clients i.rounds in
    record {
      fresh = seen_fresh m T i.rounds c.args.batch.now c.in_ok-fresh.fresh.items c.deref.result.now
          (c.in_ok-fresh.ensures m T refl c.self.invariant.clients_agree) c.deref.ensures.value refl;
    }
