use Rattle.std.proofs.Common.{rules, ◌≡◌, ◌+◌, ◌*◌, ◌<◌, true, false, [], ◌∙◌, sym, subst, slice_index_or}
use Rattle.std.specs.Prelude.{map}
use Rattle.world.specs.Arming.{asked_of, fared_by}
use Rattle.world.specs.Calling.{Called, absent_text}
use Rattle.world.specs.Commands.{row_of, event_of}
use Rattle.world.specs.Disks.{place_of}
use Rattle.world.specs.NodeLists.{up_at, condition_at}
use Rattle.world.specs.Telling.{told_command}
use Rattle.world.proofs.Calls.InWorlds.{asked_can, asked_no_fault}
use Rattle.world.proofs.Calls.CommandsOfTiers.{command_by, command_rests}
use Rattle.world.proofs.Calls.ArmedDisks.{disk_read, disks_left, may_write_at}
use Rattle.world.proofs.Calls.EventsOfCommands.{faulty_by, finds_by, place_by, happens_by}
use Rattle.world.proofs.Events.WholeEvents.{plays_by, plays_idle}
use Rattle.world.proofs.Turns.PacketsHaveRoom.{nodes_fit}
use Rattle.world.proofs.Calls.NodesThere.{has_shown}
use Rattle.world.proofs.parts.Parts.command.Goals as goal

pub is_up-requires : goal.is_up-requires
is_up-requires g c = let r = c.requires.shown in has_shown r.0 r.1 r.2 c.args.self.now c.args.node r.3 c.requires.there

pub pass_over-requires-clause-there : goal.pass_over-requires-clause-there
pass_over-requires-clause-there g c = let r = c.requires.shown in has_shown r.0 r.1 r.2 c.args.self.now c.args.node r.3 c.requires.there

pub returns-then-not-is_up : goal.returns-then-not-is_up
returns-then-not-is_up g c =
    let state = g.D.Disk.state in
    let down : up_at c.args.self.now.nodes c.args.node ≡ false = sym c.is_up.ensures ∙ search rules in
    let told = absent_text c.args.node (condition_at c.args.self.now.nodes c.args.node.tier c.args.node.index) in
    plays_idle c.args.self.now c.pass_over.new.self (map state c.args.disks.now) (asked_of c.args.stop) c.asked.result
    told c.args.lines.now c.pass_over.new.lines (λ f. event_of c.args.command c.args.node f)
    (λ u depth w s d. happens_by u depth w c.args.node c.args.command (asked_of c.args.stop) c.args.self.now.nodes
    (map state c.args.disks.now) [] told (asked_can c.args.stop c.requires.stop)
    (command_rests u depth w c.args.self.now.nodes c.args.node c.args.command (map state c.args.disks.now)
    (asked_of c.args.stop) c.args.node.tier s.nodes d
    (subst (λ z. c.args.node.index < 2 * z + 1) s.size c.requires.there) down))
    (faulty_by c.args.command c.args.node (asked_of c.args.stop) ∙ asked_no_fault c.args.stop)
    (finds_by c.args.command c.args.node (asked_of c.args.stop)) c.asked.ensures c.in_ok-pass_over.ensures.same
    c.in_ok-pass_over.ensures.within c.in_ok-pass_over.ensures.told

pub obey-answer-requires-clause-disk : goal.obey-answer-requires-clause-disk
obey-answer-requires-clause-disk g c =
    let state = g.D.Disk.state in
    let r = c.requires.shown in
    let up : up_at c.args.self.now.nodes c.args.node ≡ true = sym c.is_up.ensures ∙ search rules in
    may_write_at r.0 r.1 r.2 c.args.self.now.nodes c.args.node.tier c.args.node.index (map state c.args.disks.now)
    (state (slice_index_or c.args.disks.now c.place_of.result c.index-disks-place_of.result)) c.args.stop r.3.few r.3.nodes r.4
    (subst (λ z. c.args.node.index < 2 * z + 1) r.3.size c.requires.there)
    (disk_read state c.args.disks.now (place_of c.args.node) c.place_of.result c.index-disks-place_of.result
    c.place_of.ensures.is c.place_of.ensures.within r.4.all) up

pub send-requires : goal.send-requires
send-requires g c =
    let up : up_at c.args.self.now.nodes c.args.node ≡ true = sym c.is_up.ensures ∙ search rules in
    nodes_fit c.args.self.now.nodes c.obey-answer.ensures.between c.args.node.tier c.args.node.index _
    c.obey-answer.ensures.called c.args.self.now.soup c.new-out.result c.obey-answer.new.out
    (λ S k. row_of c.args.command k) _ c.requires.few c.new-out.ensures up c.obey-answer.ensures.moves
    c.in_ok-add_command.ensures.memory

pub returns : goal.returns
returns g c =
    let state = g.D.Disk.state in
    let up : up_at c.args.self.now.nodes c.args.node ≡ true = sym c.is_up.ensures ∙ search rules in
    let disk = state (slice_index_or c.args.disks.now c.place_of.result c.index-disks-place_of.result) in
    let r = c.requires.shown in
    let here = disk_read state c.args.disks.now (place_of c.args.node) c.place_of.result c.index-disks-place_of.result
    c.place_of.ensures.is c.place_of.ensures.within r.4.all in
    let answer = c.obey-answer.result.0 in
    let met = c.obey-answer.result.1 in
    let by = fared_by c.args.stop met answer in
    let called = subst (λ z. Called c.args.self.now.nodes c.obey-answer.new.nodes c.args.node.tier c.args.node.index
    c.args.stop disk (state c.obey-answer.new.disk) z c.obey-answer.new.out (λ S k. row_of c.args.command k) answer
    met) c.new-out.ensures c.obey-answer.ensures in
    plays_by c.args.self.now c.send.new.self c.obey-answer.new.nodes c.obey-answer.new.out (map state c.args.disks.now)
    _ (place_of c.args.node) disk (state c.obey-answer.new.disk) (asked_of c.args.stop) by c.fared-fared.result
    (told_command c.args.node met answer) c.args.lines.now c.add_command.new.out (λ f. event_of c.args.command c.args.node f) r
    (λ u depth w s d. let h = command_by u depth w c.args.self.now.nodes c.obey-answer.new.nodes c.args.node
    c.args.command c.args.stop (map state c.args.disks.now) disk (state c.obey-answer.new.disk)
    c.obey-answer.new.out answer met c.args.node.tier
    (record {
      few = s.few;
      nodes_are = s.nodes;
      disks_are = d;
      there = subst (λ z. c.args.node.index < 2 * z + 1) s.size c.requires.there;
      disk_is = here;
      up = up;
    })
    c.requires.stop c.in_ok-add_command.ensures.memory called in (
      happens_by u depth w c.args.node c.args.command by c.obey-answer.new.nodes _ c.obey-answer.new.out
          (told_command c.args.node met answer) h.1.can h.0,
      h.1,
      place_by c.args.command c.args.node by w,
    ))
    (faulty_by c.args.command c.args.node by) (finds_by c.args.command c.args.node by) here
    (disks_left state c.args.disks.now (place_of c.args.node) c.place_of.result c.obey-answer.new.disk
    c.place_of.ensures.is) c.fared-fared.ensures c.in_ok-send.ensures.0 c.in_ok-send.ensures.1 c.in_ok-add_command.ensures.told
