use Rattle.std.proofs.Common.{refl, ap, ◌∙◌}
use Rattle.net_script.proofs.Runs.{err_view, inside_kept, inside_more, ok_view}
use Rattle.net_script.proofs.soup.Soup.push.Goals as goal

pub returns-in_err-sent-clause-err : goal.returns-in_err-sent-clause-err
returns-in_err-sent-clause-err c = err_view c.from_residual-in_err-sent.result c.self.inside.run.items
    c.put.new.run.items c.self.inside.sent.items c.self.inside.sent.items c.args.self.now c.self.view_is
    c.put.ensures.grown c.self.invariant.1 refl

pub invariant_of-self-in_err-push-2 : goal.invariant_of-self-in_err-push-2
invariant_of-self-in_err-push-2 c = inside_kept c.self.inside.run.items c.put.new.run.items c.self.inside.sent.items
    c.push-2.new.self.items c.self.invariant c.put.ensures.grown c.in_err-push-2.ensures.items

pub returns-in_err-push-2-clause-err : goal.returns-in_err-push-2-clause-err
returns-in_err-push-2-clause-err c = err_view c.from_residual-in_err-push-2.result c.self.inside.run.items
    c.put.new.run.items c.self.inside.sent.items c.push-2.new.self.items c.args.self.now c.self.view_is
    c.put.ensures.grown c.self.invariant.1 c.in_err-push-2.ensures.items

pub invariant_of-self-2 : goal.invariant_of-self-2
invariant_of-self-2 c = inside_more c.self.inside.run.items c.put.new.run.items c.self.inside.sent.items
    c.push-2.new.self.items c.in_ok-sent.sent c.args.self.now c.self.view_is c.requires c.self.invariant.1
    c.put.ensures.grown c.in_ok-sent.ensures.packet.1 c.in_ok-push-2.ensures.items

pub returns-clause-ok : goal.returns-clause-ok
returns-clause-ok c =
    ok_view c.self.inside.run.items c.put.new.run.items c.self.inside.sent.items c.push-2.new.self.items
    c.in_ok-sent.sent (c.args.to, c.args.bytes) c.args.self.now c.self.view_is c.self.invariant.1 c.put.ensures.grown
    (c.in_ok-sent.ensures.packet.0 ∙ ap (λ z. (c.args.to, z)) c.items-2.ensures) c.in_ok-push-2.ensures.items
