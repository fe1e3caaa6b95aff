use Rattle.std.proofs.Common.{List, Option, Bor, refl, sym, ◌∙◌, subst}
use Rattle.std.specs.Prelude.{IfSome}
use Rattle.std.specs.List.{AllByRecursion}
use Rattle.log_values.specs.declared.entry.Entry.{Entry}
use Rattle.log_values.specs.Values.{FitsEntry}
use Rattle.row_laws.specs.Mids.{AreTablesIn}
use Rattle.applied_rounds.specs.States.{AppliedState, programs_of, start_of, tables_of}
use Rattle.applied_rounds.proofs.Fresh.{seen_fresh}
use Rattle.applied_rounds.proofs.Found.{jobs_begin}
use Rattle.applied_rounds.proofs.applied.Applied.job.Goals as goal

pub next_job-requires : goal.next_job-requires
next_job-requires g c =
    let i = c.self.inside in
    let m = programs_of (g.S.Service.table c.args.svc.now) (g.S.Service.beginning c.args.svc.now) in
    let T = tables_of (start_of i.run i.store.map) i.clients i.rounds in
    record {
      fresh = seen_fresh m T i.rounds c.in-Some.batch.now c.in_ok-fresh.fresh.items c.deref.result.now
          (c.in_ok-fresh.ensures m T refl c.self.invariant.clients_agree) c.deref.ensures.value refl;
    }

pub returns-clause-begins : goal.returns-clause-begins
returns-clause-begins g c =
    let i = c.self.inside in
    let m = programs_of (g.S.Service.table c.args.svc.now) (g.S.Service.beginning c.args.svc.now) in
    let T = tables_of (start_of i.run i.store.map) i.clients i.rounds in
    let k = subst (λ (z : AppliedState). AreTablesIn m c.requires.tables.0 z.applied z.tables) (sym c.self.view_is) c.requires.tables.1 in
    jobs_begin m c.requires.tables.0 i.rounds.next T c.in-Some.batch.now c.deref.result.now c.next_job.result
    (λ who body stage. g.met.S.Service.folds c.args.svc.now who body stage) k
    (subst (λ (z : Option (Bor (List Entry))). IfSome z (λ es. AllByRecursion FitsEntry es.now)) c.in-Some.is c.requires.batch)
    (c.deref.ensures.value ∙ c.in_ok-fresh.ensures m T refl c.self.invariant.clients_agree)
    c.next_job.ensures.next
