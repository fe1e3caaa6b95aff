use Rattle.std.proofs.Common.{◌∙◌, ap, subst, sym, Err}
use Rattle.std.proofs.lemmas.Result.{err_from_is_err_and}
use Rattle.log_model.specs.Rows.{on_msg}
use Rattle.world.specs.LogNodes.{LogView, WasAtWork}
use Rattle.world.proofs.Turns.FewMessages.{msg_few}
use Rattle.world.proofs.Turns.TurnsOfNodes.{turns_are, turns_none, turn_range, turn_short, may_write, own_log, sure_now, place_now, msg_range}
use Rattle.world.proofs.nodes.log_node.LogNode.on_msg.Goals as goal

pub returns-in_err-turn : goal.returns-in_err-turn
returns-in_err-turn g c =
    let p = err_from_is_err_and c.from_residual.result c.from_residual.ensures.1 in
    turns_none c.args.self.now c.take_up-up.new.self (g.D.Disk.state c.args.disk.now) c.args.out.now
    (λ u x log. on_msg u log c.args.from c.args.message.now) c.from_residual.result
    (msg_range c.args.self.now c.deref_mut.result.now c.args.from c.args.message.now
    (subst (WasAtWork c.args.self.now) (sym c.deref_mut.ensures.value) c.take_up-up.ensures.taken) c.requires.sender
    c.requires.range) c.take_up-up.ensures.left (p.1 ∙ ap Err p.2)

pub settle-requires-clause-down : goal.settle-requires-clause-down
settle-requires-clause-down g c = ap (λ (z : LogView). z.part.mode) c.take_up-up.ensures.left

pub settle-requires-clause-sure : goal.settle-requires-clause-sure
settle-requires-clause-sure g c = sure_now c.args.self.now c.take_up-up.new.self c.deref_mut.result.now
    (subst (WasAtWork c.args.self.now) (sym c.deref_mut.ensures.value) c.take_up-up.ensures.taken) c.take_up-up.ensures.left

pub settle-requires-clause-place : goal.settle-requires-clause-place
settle-requires-clause-place g c = place_now c.args.self.now c.take_up-up.new.self c.deref_mut.result.now
    (subst (WasAtWork c.args.self.now) (sym c.deref_mut.ensures.value) c.take_up-up.ensures.taken) c.take_up-up.ensures.left

pub settle-requires-clause-own : goal.settle-requires-clause-own
settle-requires-clause-own g c = own_log c.args.self.now c.take_up-up.new.self c.deref_mut.result.now c.on_msg.new.self
    _ (subst (WasAtWork c.args.self.now) (sym c.deref_mut.ensures.value) c.take_up-up.ensures.taken)
    c.take_up-up.ensures.left c.in_ok-turn.ensures.after

pub settle-requires-clause-range : goal.settle-requires-clause-range
settle-requires-clause-range g c = turn_range c.args.self.now c.take_up-up.new.self c.deref_mut.result.now
    c.on_msg.new.self (λ u x log. on_msg u log c.args.from c.args.message.now) c.in_ok-turn.turn
    (subst (WasAtWork c.args.self.now) (sym c.deref_mut.ensures.value) c.take_up-up.ensures.taken)
    c.take_up-up.ensures.left c.in_ok-turn.ensures.turn c.in_ok-turn.ensures.after
    (msg_range c.args.self.now c.deref_mut.result.now c.args.from c.args.message.now
    (subst (WasAtWork c.args.self.now) (sym c.deref_mut.ensures.value) c.take_up-up.ensures.taken) c.requires.sender
    c.requires.range)

pub settle-requires-clause-short : goal.settle-requires-clause-short
settle-requires-clause-short g c = turn_short c.deref_mut.result.now.log.faults c.deref_mut.result.now.log.state _
    c.in_ok-turn.turn c.in_ok-turn.ensures.turn
    (msg_few c.deref_mut.result.now.log.faults c.deref_mut.result.now.log.state c.args.from c.args.message.now)

pub settle-requires-clause-disk : goal.settle-requires-clause-disk
settle-requires-clause-disk g c = may_write c.args.self.now c.take_up-up.new.self (g.D.Disk.state c.args.disk.now) c.take_up-up.ensures.left c.requires.disk

pub returns : goal.returns
returns g c =
    turns_are c.args.self.now c.take_up-up.new.self c.settle.new.self c.deref_mut.result.now c.on_msg.new.self
    (g.D.Disk.state c.args.disk.now) (g.D.Disk.state c.settle.new.disk) c.args.out.now c.settle.new.out
    (λ u x log. on_msg u log c.args.from c.args.message.now) c.in_ok-turn.turn c.settle.result
    (subst (WasAtWork c.args.self.now) (sym c.deref_mut.ensures.value) c.take_up-up.ensures.taken)
    c.take_up-up.ensures.left c.in_ok-turn.ensures.turn c.in_ok-turn.ensures.after
    (msg_range c.args.self.now c.deref_mut.result.now c.args.from c.args.message.now
    (subst (WasAtWork c.args.self.now) (sym c.deref_mut.ensures.value) c.take_up-up.ensures.taken) c.requires.sender
    c.requires.range) c.settle.ensures.row c.settle.ensures.disk c.settle.ensures.later c.settle.ensures.same
