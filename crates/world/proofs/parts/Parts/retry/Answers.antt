use Rattle.std.proofs.Common.{rules, ◌≡◌, ◌+◌, ◌*◌, ◌<◌, true, false, [], ◌∙◌, sym, subst}
use Rattle.std.proofs.lemmas.Result.{on_ok_weaker}
use Rattle.aeg_base.specs.declared.names.End.TheVariants as ends
use Rattle.run_model.specs.declared.trace.TraceEvent.TheVariants as events
use Rattle.world.specs.Calling.{absent_text}
use Rattle.world.specs.NodeLists.{up_at, condition_at, MoveIn}
use Rattle.world.specs.Telling.{told_command}
use Rattle.world.proofs.Calls.CommandsOfTiers.{retry_by, retry_rests}
use Rattle.world.proofs.Calls.ArmedDisks.{disk_of, a_disk}
use Rattle.world.proofs.Power.CountsOfFaults.{falls_none}
use Rattle.world.proofs.Events.WholeEvents.{made, on_ok_three}
use Rattle.world.proofs.Turns.PacketsHaveRoom.{nodes_fit}
use Rattle.world.proofs.Calls.NodesThere.{has_shown}
use Rattle.world.proofs.parts.Parts.retry.Goals as goal

pub is_up-requires : goal.is_up-requires
is_up-requires c = let r = c.requires.shown in has_shown r.0 r.1 r.2 c.args.self.now c.args.node r.3 c.requires.there

pub pass_over-requires-clause-there : goal.pass_over-requires-clause-there
pass_over-requires-clause-there c = let r = c.requires.shown in has_shown r.0 r.1 r.2 c.args.self.now c.args.node r.3 c.requires.there

pub returns-then-not-is_up : goal.returns-then-not-is_up
returns-then-not-is_up c =
    let down : up_at c.args.self.now.nodes c.args.node ≡ false = sym c.is_up.ensures ∙ search rules in
    on_ok_three c.pass_over.result c.pass_over.ensures.told c.pass_over.ensures.same c.pass_over.ensures.within
    (λ told e within disks u depth w s d. made u depth w c.args.self.now c.pass_over.new.self c.args.self.now.nodes []
    disks disks (events.Retry (ends.Node c.args.node))
    (absent_text c.args.node (condition_at c.args.self.now.nodes c.args.node.tier c.args.node.index))
    c.args.lines.now c.pass_over.new.lines s within
    (retry_rests u depth w c.args.self.now.nodes c.args.node disks c.args.node.tier s.nodes d
    (subst (λ z. c.args.node.index < 2 * z + 1) s.size c.requires.there) down) e told (λ f. absurd (cc)) (falls_none disks) tt)

pub send-requires : goal.send-requires
send-requires c =
    let up : up_at c.args.self.now.nodes c.args.node ≡ true = sym c.is_up.ensures ∙ search rules in
    nodes_fit c.args.self.now.nodes c.retry-answer.new.self c.args.node.tier c.args.node.index a_disk a_disk
    c.args.self.now.soup c.new-out.result c.retry-answer.new.out (λ S k. k.retry) c.retry-answer.result
    c.requires.few c.new-out.ensures up (c.retry-answer.ensures a_disk) c.in_ok-add_command.ensures.memory

pub returns : goal.returns
returns c =
    let up : up_at c.args.self.now.nodes c.args.node ≡ true = sym c.is_up.ensures ∙ search rules in
    on_ok_weaker c.send.result (λ sent disks u depth w s d.
    let there = subst (λ z. c.args.node.index < 2 * z + 1) s.size c.requires.there in
    let at = disk_of w u c.args.node.index c.args.node.tier disks s.few d there in
    let moves = subst (λ z. MoveIn c.args.self.now.nodes c.retry-answer.new.self c.args.node.tier c.args.node.index at.0
    at.0 z c.retry-answer.new.out (λ S k. k.retry) c.retry-answer.result) c.new-out.ensures (c.retry-answer.ensures at.0) in
    made u depth w c.args.self.now c.send.new.self c.retry-answer.new.self c.retry-answer.new.out disks disks
    (events.Retry (ends.Node c.args.node)) (told_command c.args.node false c.retry-answer.result) c.args.lines.now
    c.add_command.new.out s sent.1
    (retry_by u depth w c.args.self.now.nodes c.retry-answer.new.self c.args.node disks at.0 c.retry-answer.new.out
    c.retry-answer.result c.args.node.tier (record {
      few = s.few;
      nodes_are = s.nodes;
      disks_are = d;
      there = there;
      disk_is = at.1;
      up = up;
    }) c.in_ok-add_command.ensures.memory moves)
    sent.0 c.in_ok-add_command.ensures.told (λ f. absurd (cc)) (falls_none disks) tt) c.send.ensures
