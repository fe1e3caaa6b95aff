use Rattle.std.proofs.Common.{◌≡◌, length, take, subst}
use Rattle.tier_model.specs.BackRows.{retry}
use Rattle.backend_node.proofs.Moved.{told_none}
use Rattle.backend_node.proofs.back_node.BackNode.retry.Goals as goal

pub returns-in-Err : goal.returns-in-Err
returns-in-Err g c =
    told_none c.self.inside.node c.take_up-up.new.self c.args.self.now c.args.out.now c.tell_again.new.out c.truncate.new.self
    (retry c.args.self.now.faults c.args.self.now.tier c.args.self.now.me) c.take_up-up.ensures.left c.self.view_is c.tell_again.ensures.kept
    (subst (λ z. c.truncate.new.self ≡ take (length z) c.tell_again.new.out) c.items-sent.ensures c.truncate.ensures)
