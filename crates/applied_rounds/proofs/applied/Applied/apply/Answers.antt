use Rattle.std.proofs.Common.{refl, ◌∙◌, subst}
use Rattle.round_model.specs.Held.{held_code}
use Rattle.applied_rounds.specs.States.{AppliedState, programs_of, start_of, tables_of}
use Rattle.applied_rounds.proofs.Fresh.{seen_fresh}
use Rattle.applied_rounds.proofs.Found.{Found, comes_found, next_begins, next_found, finish_found, reads_found, state_found, told_found}
use Rattle.applied_rounds.proofs.applied.Applied.apply.Goals as goal

pub settled_job-requires : goal.settled_job-requires
settled_job-requires g c =
    let i = c.self.inside in
    let m = programs_of (g.S.Service.table c.args.svc.now) (g.S.Service.beginning c.args.svc.now) in
    let T = tables_of (start_of i.run i.store.map) i.clients i.rounds in
    record {
      fresh = seen_fresh m T i.rounds c.args.batch.now c.in_ok-fresh.fresh.items c.deref.result.now
          (c.in_ok-fresh.ensures m T refl c.self.invariant.clients_agree) c.deref.ensures.value refl;
    }

pub settle-requires-clause-reads : goal.settle-requires-clause-reads
settle-requires-clause-reads g c =
    let i = c.self.inside in
    let m = programs_of (g.S.Service.table c.args.svc.now) (g.S.Service.beginning c.args.svc.now) in
    let T = tables_of (start_of i.run i.store.map) i.clients i.rounds in
    let now : AppliedState = c.args.self.now in
    let A = held_code c.args.held.now in
    let found : Found m A now.applied now.tables c.args.batch.now c.deref.result.now c.args.verdict.now c.in_ok-tier.field-0 c.in-Ready.job =
    subst (λ (z : AppliedState). Found m A z.applied z.tables c.args.batch.now c.deref.result.now c.args.verdict.now c.in_ok-tier.field-0 c.in-Ready.job)
    c.self.view_is (record {
      fresh_are = c.deref.ensures.value ∙ c.in_ok-fresh.ensures m T refl c.self.invariant.clients_agree;
      ready = c.in_ok-tier.ensures.ready m T refl refl;
      next = c.in_ok-tier.ensures.next;
      serial = c.in_ok-tier.ensures.serial;
      is = c.in-Ready.is;
    }) in
    reads_found found refl

pub settle-requires-clause-begins : goal.settle-requires-clause-begins
settle-requires-clause-begins g c =
    let i = c.self.inside in
    let m = programs_of (g.S.Service.table c.args.svc.now) (g.S.Service.beginning c.args.svc.now) in
    let T = tables_of (start_of i.run i.store.map) i.clients i.rounds in
    let now : AppliedState = c.args.self.now in
    let A = held_code c.args.held.now in
    let found : Found m A now.applied now.tables c.args.batch.now c.deref.result.now c.args.verdict.now c.in_ok-tier.field-0 c.in-Ready.job =
    subst (λ (z : AppliedState). Found m A z.applied z.tables c.args.batch.now c.deref.result.now c.args.verdict.now c.in_ok-tier.field-0 c.in-Ready.job)
    c.self.view_is (record {
      fresh_are = c.deref.ensures.value ∙ c.in_ok-fresh.ensures m T refl c.self.invariant.clients_agree;
      ready = c.in_ok-tier.ensures.ready m T refl refl;
      next = c.in_ok-tier.ensures.next;
      serial = c.in_ok-tier.ensures.serial;
      is = c.in-Ready.is;
    }) in
    λ serial. next_begins m c.requires.tables.0 now.applied now.tables c.args.batch.now c.deref.result.now c.in-Ready.job
    (λ who body stage. g.met.S.Service.folds c.args.svc.now who body stage) c.requires.tables.1 c.requires.batch found.fresh_are
    (next_found found)

pub returns-clause-state : goal.returns-clause-state
returns-clause-state g c =
    let i = c.self.inside in
    let m = programs_of (g.S.Service.table c.args.svc.now) (g.S.Service.beginning c.args.svc.now) in
    let T = tables_of (start_of i.run i.store.map) i.clients i.rounds in
    let now : AppliedState = c.args.self.now in
    let A = held_code c.args.held.now in
    let found : Found m A now.applied now.tables c.args.batch.now c.deref.result.now c.args.verdict.now c.in_ok-tier.field-0 c.in-Ready.job =
    subst (λ (z : AppliedState). Found m A z.applied z.tables c.args.batch.now c.deref.result.now c.args.verdict.now c.in_ok-tier.field-0 c.in-Ready.job)
    c.self.view_is (record {
      fresh_are = c.deref.ensures.value ∙ c.in_ok-fresh.ensures m T refl c.self.invariant.clients_agree;
      ready = c.in_ok-tier.ensures.ready m T refl refl;
      next = c.in_ok-tier.ensures.next;
      serial = c.in_ok-tier.ensures.serial;
      is = c.in-Ready.is;
    }) in
    state_found found now c.settle.new.self
    (c.in_ok-told-in-Ready.ensures.state c.deref.result.now (finish_found found).0 (next_found found)
    (comes_found found (λ who body stage. g.met.S.Service.folds c.args.svc.now who body stage) refl))

pub returns-clause-told : goal.returns-clause-told
returns-clause-told g c =
    let i = c.self.inside in
    let m = programs_of (g.S.Service.table c.args.svc.now) (g.S.Service.beginning c.args.svc.now) in
    let T = tables_of (start_of i.run i.store.map) i.clients i.rounds in
    let now : AppliedState = c.args.self.now in
    let A = held_code c.args.held.now in
    let found : Found m A now.applied now.tables c.args.batch.now c.deref.result.now c.args.verdict.now c.in_ok-tier.field-0 c.in-Ready.job =
    subst (λ (z : AppliedState). Found m A z.applied z.tables c.args.batch.now c.deref.result.now c.args.verdict.now c.in_ok-tier.field-0 c.in-Ready.job)
    c.self.view_is (record {
      fresh_are = c.deref.ensures.value ∙ c.in_ok-fresh.ensures m T refl c.self.invariant.clients_agree;
      ready = c.in_ok-tier.ensures.ready m T refl refl;
      next = c.in_ok-tier.ensures.next;
      serial = c.in_ok-tier.ensures.serial;
      is = c.in-Ready.is;
    }) in
    told_found found c.in_ok-told-in-Ready.told.items
    (c.in_ok-told-in-Ready.ensures.told c.deref.result.now (finish_found found).0 (next_found found)
    (comes_found found (λ who body stage. g.met.S.Service.folds c.args.svc.now who body stage) refl))
