use Rattle.std.proofs.Common.{◌∙◌, ℕ, sym, subst, ap, inl, Err}
use Rattle.std.proofs.lemmas.Result.{err_from_is_err_and}
use Rattle.fact_journal.specs.Standing.{HasFacts}
use Rattle.fact_journal.proofs.Appends.{some_left, spelled_as, filled, full_at, past_at, leaves, moments, cut, not_begun, leaves_old}
use Rattle.fact_journal.proofs.journal.FactJournal.append.Goals as goal

pub append-answer-requires-clause-filled : goal.append-answer-requires-clause-filled
append-answer-requires-clause-filled g c =
    let some = some_left c.args.facts.now c.facts.result.now c.is_empty.result c.facts.ensures c.is_empty.ensures c.if-is_empty.false in
    filled c.args.facts.now c.encode.new.out some (spelled_as _ c.encode.new.out c.args.facts.now c.emptied-body.ensures c.in_ok-encode.ensures.ok)

pub returns-clause-full : goal.returns-clause-full
returns-clause-full g c = λ n is.
    let some = some_left c.args.facts.now c.facts.result.now c.is_empty.result c.facts.ensures c.is_empty.ensures c.if-is_empty.false in
    let spelled = spelled_as _ c.encode.new.out c.args.facts.now c.emptied-body.ensures c.in_ok-encode.ensures.ok in
    full_at c.args.facts.now c.encode.new.out c.args.self.now c.self.inside.journal n some spelled (sym c.self.view_is) ((c.append-answer.ensures.full n).0 is)

pub returns-clause-past : goal.returns-clause-past
returns-clause-past g c = λ past.
    let some = some_left c.args.facts.now c.facts.result.now c.is_empty.result c.facts.ensures c.is_empty.ensures c.if-is_empty.false in
    let spelled = spelled_as _ c.encode.new.out c.args.facts.now c.emptied-body.ensures c.in_ok-encode.ensures.ok in
    inl ((c.append-answer.ensures.full _).1
    (past_at c.args.facts.now c.encode.new.out c.args.self.now c.self.inside.journal some spelled (sym c.self.view_is) past))

pub returns-clause-leaves : goal.returns-clause-leaves
returns-clause-leaves g c = λ rs t has.
    let some = some_left c.args.facts.now c.facts.result.now c.is_empty.result c.facts.ensures c.is_empty.ensures c.if-is_empty.false in
    let spelled = spelled_as _ c.encode.new.out c.args.facts.now c.emptied-body.ensures c.in_ok-encode.ensures.ok in
    let old = g.D.Disk.state c.args.disk.now in
    let here = subst (λ (k : ℕ). HasFacts rs old k) (sym c.self.view_is) has in
    leaves rs c.args.facts.now some c.encode.new.out spelled old (g.D.Disk.state c.append-answer.new.disk)
    c.self.inside.journal here c.append-answer.result c.append-answer.new.self t c.append-answer.ensures.later
    c.append-answer.ensures.place c.append-answer.ensures.kept c.append-answer.ensures.acknowledged
    c.append-answer.ensures.any_moment c.append-answer.ensures.nothing_written

pub returns-clause-stopped : goal.returns-clause-stopped
returns-clause-stopped g c = λ runs stands rs t has.
    let some = some_left c.args.facts.now c.facts.result.now c.is_empty.result c.facts.ensures c.is_empty.ensures c.if-is_empty.false in
    let spelled = spelled_as _ c.encode.new.out c.args.facts.now c.emptied-body.ensures c.in_ok-encode.ensures.ok in
    let old = g.D.Disk.state c.args.disk.now in
    let here = subst (λ (k : ℕ). HasFacts rs old k) (sym c.self.view_is) has in
    cut rs c.args.facts.now some c.encode.new.out spelled old (g.D.Disk.state c.append-answer.new.disk)
    c.self.inside.journal here t c.append-answer.ensures.later (c.append-answer.ensures.stopped runs stands)

pub returns-clause-any_moment : goal.returns-clause-any_moment
returns-clause-any_moment g c = λ rs t has.
    let some = some_left c.args.facts.now c.facts.result.now c.is_empty.result c.facts.ensures c.is_empty.ensures c.if-is_empty.false in
    let spelled = spelled_as _ c.encode.new.out c.args.facts.now c.emptied-body.ensures c.in_ok-encode.ensures.ok in
    let old = g.D.Disk.state c.args.disk.now in
    let here = subst (λ (k : ℕ). HasFacts rs old k) (sym c.self.view_is) has in
    moments rs c.args.facts.now some c.encode.new.out spelled old (g.D.Disk.state c.append-answer.new.disk)
    c.self.inside.journal here t c.append-answer.ensures.any_moment

pub returns-in_err-encode-clause-leaves : goal.returns-in_err-encode-clause-leaves
returns-in_err-encode-clause-leaves g c = λ rs t has.
    let p = err_from_is_err_and c.from_residual.result c.from_residual.ensures.1 in
    not_begun rs c.args.facts.now (g.D.Disk.state c.args.disk.now) c.args.self.now has c.self.inside.journal c.from_residual.result t (p.1 ∙ ap Err p.2)

pub returns-in_err-encode-clause-any_moment : goal.returns-in_err-encode-clause-any_moment
returns-in_err-encode-clause-any_moment g c = λ rs t has. leaves_old rs c.args.facts.now (g.D.Disk.state c.args.disk.now) c.args.self.now has
