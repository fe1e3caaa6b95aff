use Rattle.std.proofs.Common.{arith, subst}
use Rattle.aeg_wire.proofs.Grammar.{IsBytes}
use Rattle.log_values.proofs.Tokens.{no_token, token_is}
use Rattle.log_values.proofs.token.pass_from.Goals as goal

pub returns-in_default : goal.returns-in_default
returns-in_default c = no_token c.args.from.now c.in_default.ensures

pub overflow_sub-start : goal.overflow_sub-start
overflow_sub-start c =
    let here : IsBytes c.args.start.now = λ i. omega (arith, c.type_inv.start i) in
    let t = token_is c.args.from.now c.in-Some.count c.pass_outcome.new.from (subst IsBytes c.requires here) c.in-Some.ensures in
    rw (c.requires, c.rest.ensures) t.0

pub returns : goal.returns
returns c =
    let here : IsBytes c.args.start.now = λ i. omega (arith, c.type_inv.start i) in
    let t = token_is c.args.from.now c.in-Some.count c.pass_outcome.new.from (subst IsBytes c.requires here) c.in-Some.ensures in
    rw (c.split_at.ensures.front, c.requires, c.rest.ensures) t.1
