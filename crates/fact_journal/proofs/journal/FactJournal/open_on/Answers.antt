use Rattle.std.proofs.Common.{◌≡◌, ◌≤◌, ◌^◌, rules, List, ℕ, inl, inr, Err, sym, ap, ◌∙◌, subst}
use Rattle.node_journal.specs.Journal.{size_of}
use Rattle.node_journal.specs.declared.opening.OpenErr.TheVariants.{BadRecord}
use Rattle.fact_journal.specs.Calls.{IsMisfitAt, ReadsOne}
use Rattle.fact_journal.proofs.Opens.{read_fits, opened, reads_one, none_refused, not_refused}
use Rattle.fact_journal.proofs.journal.FactJournal.open_on.Goals as goal

pub returns-in-Ok-read_facts-clause-fit : goal.returns-in-Ok-read_facts-clause-fit
returns-in-Ok-read_facts-clause-fit g c = read_fits c.args.tier c.deref.result.now c.in-Ok-read_facts.facts.items c.in-Ok-read_facts.ensures.read

pub returns-in-Ok-read_facts-clause-whole : goal.returns-in-Ok-read_facts-clause-whole
returns-in-Ok-read_facts-clause-whole g c = λ t.
    let old = g.D.Disk.state c.args.disk.now in
    let new = g.D.Disk.state c.open_on.new.disk in
    let facts = c.in-Ok-read_facts.facts.items in
    not_refused c.args.tier old new facts c.in-Ok.journal (c.in-Ok.ensures.whole t)
    (opened c.args.tier old new c.deref.result.now facts c.in-Ok.journal (c.deref.ensures.value
    ∙ c.in-Ok.ensures.records t) (c.in-Ok.ensures.ready t) (c.in-Ok.ensures.size t
    ∙ ap size_of (sym c.deref.ensures.value)) c.in-Ok-read_facts.ensures.read)

pub returns-in-Ok-read_facts-clause-one_list : goal.returns-in-Ok-read_facts-clause-one_list
returns-in-Ok-read_facts-clause-one_list g c = λ lists s each.
    let t = s.tells in
    let old = g.D.Disk.state c.args.disk.now in
    let new = g.D.Disk.state c.open_on.new.disk in
    let facts = c.in-Ok-read_facts.facts.items in
    subst (λ (at : ℕ). ReadsOne lists new facts at) (sym c.over.ensures) (
    reads_one c.args.tier lists old s each (g.met.D.Disk.lawful c.args.disk.now t) new facts c.in-Ok.journal
    (opened c.args.tier old new c.deref.result.now facts c.in-Ok.journal (c.deref.ensures.value
    ∙ c.in-Ok.ensures.records t) (c.in-Ok.ensures.ready t) (c.in-Ok.ensures.size t
    ∙ ap size_of (sym c.deref.ensures.value)) c.in-Ok-read_facts.ensures.read))

pub returns-in-Err-read_facts-clause-none_refused : goal.returns-in-Err-read_facts-clause-none_refused
returns-in-Err-read_facts-clause-none_refused g c = λ lists s each n is.
    let t = s.tells in
    let old = g.D.Disk.state c.args.disk.now in
    let e : c.in-Err-read_facts.e ≡ BadRecord n = cc is in
    let size = c.in-Ok.ensures.size t ∙ ap size_of (sym c.deref.ensures.value) in
    let short : size_of c.deref.result.now ≤ 2 ^ 64 = search rules in
    none_refused c.args.tier lists old s each (g.met.D.Disk.lawful c.args.disk.now t) n
    (inr (
      c.in-Ok.ensures.whole t,
      subst (λ (l : List (List ℕ)). IsMisfitAt c.args.tier n l) (c.deref.ensures.value ∙ c.in-Ok.ensures.records t)
          (c.in-Err-read_facts.ensures.misfit n (ap Err e) short),
    ))

pub returns-in-Err-clause-none_refused : goal.returns-in-Err-clause-none_refused
returns-in-Err-clause-none_refused g c = λ lists s each n is.
    let t = s.tells in
    let e : c.in-Err.e ≡ BadRecord n = cc is in
    none_refused c.args.tier lists (g.D.Disk.state c.args.disk.now) s each (g.met.D.Disk.lawful c.args.disk.now t) n (inl (c.in-Err.ensures.bad n (ap Err e) t))
