use Rattle.std.proofs.Common.{◌≡◌, ◌-◌, length, ap, rules}
use Rattle.std.proofs.lemmas.Result.{err_from_is_err_and}
use Rattle.log_values.specs.Records.{facts_at}
use Rattle.log_values.proofs.RecordGrammar.{facts_go_on, facts_miss, facts_done, facts_over}
use Rattle.log_values.proofs.record.take_facts.Goals as goal

pub returns-then-is_empty : goal.returns-then-is_empty
returns-then-is_empty c =
    let same : length c.rest-most.result.now ≡ length c.args.from.now = ap length c.rest-most.ensures in
    rw (← same) (facts_done c.loop.facts.items (length c.rest-most.result.now - c.loop.counter) c.loop.from
    (facts_at (length c.rest-most.result.now) c.args.from.now) (c.is_empty.ensures.0 c.if-is_empty.true) c.loop.invariant)

pub returns-in_err-fact : goal.returns-in_err-fact
returns-in_err-fact c =
    let same : length c.rest-most.result.now ≡ length c.args.from.now = ap length c.rest-most.ensures in
    let p = err_from_is_err_and c.from_residual.result c.from_residual.ensures.1 in
    rw (p.1, p.2, ← same) (facts_miss c.loop.facts.items (length c.rest-most.result.now) c.loop.counter c.loop.from
    c.in_err-fact.field-0.0 (facts_at (length c.rest-most.result.now) c.args.from.now) c.loop-test.true
    (λ e. search rules) c.in_err-fact.ensures c.loop.invariant)

pub loop-preserved : goal.loop-preserved
loop-preserved c = rw c.in_ok-push.ensures.items
    (facts_go_on c.loop.facts.items (length c.rest-most.result.now) c.loop.counter c.loop.from c.in_ok-fact.fact
    c.take_fact.new.from (facts_at (length c.rest-most.result.now) c.args.from.now) c.loop-test.true (λ e. search rules)
    c.in_ok-fact.ensures c.loop.invariant)

pub returns-then-is_empty-2 : goal.returns-then-is_empty-2
returns-then-is_empty-2 c =
    let same : length c.rest-most.result.now ≡ length c.args.from.now = ap length c.rest-most.ensures in
    rw (← same) (facts_done c.loop.facts.items (length c.rest-most.result.now - c.loop.counter) c.loop.from
    (facts_at (length c.rest-most.result.now) c.args.from.now) (c.is_empty-2.ensures.0 c.if-is_empty-2.true) c.loop.invariant)

pub returns : goal.returns
returns c =
    let same : length c.rest-most.result.now ≡ length c.args.from.now = ap length c.rest-most.ensures in
    rw (← same) (facts_over c.loop.facts.items (length c.rest-most.result.now) c.loop.counter c.loop.from
    (facts_at (length c.rest-most.result.now) c.args.from.now) c.loop-test.false (λ e. search rules) c.loop.invariant)
