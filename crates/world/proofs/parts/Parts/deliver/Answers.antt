use Rattle.std.proofs.Common.{rules, ◌≡◌, true, false, ◌∙◌, refl, ap, sym, subst, slice_index_or, Option, Some, None, arith}
use Rattle.std.specs.Prelude.{map, slice_get}
use Rattle.frames.specs.declared.header.Header.{Header}
use Rattle.frames.specs.declared.message.Msg.{Msg}
use Rattle.frames.specs.Frames.{header_for}
use Rattle.run_model.specs.declared.trace.TraceEvent.TheVariants as events
use Rattle.run_model.specs.Text.{none_line, lost_line}
use Rattle.world.specs.Arming.{asked_of, fared_by}
use Rattle.world.specs.Calling.{Called, parts_after}
use Rattle.world.specs.Disks.{place_of}
use Rattle.world.specs.NodeLists.{up_at}
use Rattle.world.specs.Packets.{receiver_in}
use Rattle.world.specs.Parts.{CanReach}
use Rattle.world.specs.Telling.{told_frame}
use Rattle.world.proofs.Calls.InWorlds.{asked_can, asked_no_fault}
use Rattle.world.proofs.Calls.ArmedDisks.{disk_read, disks_left, may_write_at}
use Rattle.world.proofs.Calls.DeliveredPackets.{addressed, unsent, found_is, reaches_at, place_is, deliver_none, deliver_lost, deliver_done, has_receiver}
use Rattle.world.proofs.Events.WholeEvents.{plays_by, plays_idle}
use Rattle.world.proofs.Turns.PacketsHaveRoom.{nodes_fit}
use Rattle.world.proofs.parts.Parts.deliver.Goals as goal

pub returns-in_default : goal.returns-in_default
returns-in_default g c =
    let disks = map g.D.Disk.state c.args.disks.now in
    let none : receiver_in (slice_get c.args.self.now.soup c.args.packet) ≡ None = sym c.receiver.ensures ∙ c.in_default.is in
    plays_idle c.args.self.now c.send.new.self disks (asked_of c.args.stop) c.asked.result (none_line c.args.packet)
    c.args.lines.now c.add_none.new.out (λ f. events.Deliver c.args.packet f)
    (λ u depth w s d. deliver_none u depth w c.args.self.now.nodes c.args.packet (asked_of c.args.stop) disks
    (asked_can c.args.stop c.requires.stop) s.nodes d (unsent u depth w c.args.self.now c.args.packet s none))
    (asked_no_fault c.args.stop) (λ w. tt) c.asked.ensures (c.in_ok-send.ensures.0
    ∙ ap (parts_after c.args.self.now c.args.self.now.nodes) c.new.ensures) c.in_ok-send.ensures.1 c.in_ok-add_none.ensures

pub is_up-requires : goal.is_up-requires
is_up-requires g c = has_receiver c.args.self.now (map g.D.Disk.state c.args.disks.now) c.args.packet c.in-Some.node
    c.requires.shown (sym c.receiver.ensures ∙ c.in-Some.is)

pub returns-then-not-is_up : goal.returns-then-not-is_up
returns-then-not-is_up g c =
    let disks = map g.D.Disk.state c.args.disks.now in
    let to : receiver_in (slice_get c.args.self.now.soup c.args.packet) ≡ Some c.in-Some.node = sym c.receiver.ensures ∙ c.in-Some.is in
    let down : up_at c.args.self.now.nodes c.in-Some.node ≡ false = sym c.is_up.ensures ∙ search rules in
    plays_idle c.args.self.now c.send-then-not-is_up.new.self disks (asked_of c.args.stop) c.asked-then-not-is_up.result
    (lost_line c.args.packet) c.args.lines.now c.add_lost.new.out (λ f. events.Deliver c.args.packet f)
    (λ u depth w s d. deliver_lost u depth w c.args.self.now c.args.packet (asked_of c.args.stop) c.in-Some.node disks
    (asked_can c.args.stop c.requires.stop) s d (addressed u depth w c.args.self.now c.args.packet c.in-Some.node s to) down)
    (asked_no_fault c.args.stop) (λ w. tt) c.asked-then-not-is_up.ensures (c.in_ok-send-2.ensures.0
    ∙ ap (parts_after c.args.self.now c.args.self.now.nodes) c.new-then-not-is_up.ensures) c.in_ok-send-2.ensures.1
    c.in_ok-add_lost.ensures

pub unreachable-requires : goal.unreachable-requires
unreachable-requires g c =
    let r = c.requires.shown in
    let a = addressed r.0 r.1 r.2 c.args.self.now c.args.packet c.in-Some.node r.3 (sym c.receiver.ensures ∙ c.in-Some.is) in
    let e : ◌≡◌ {A = Option (Header × Msg)} None
    (Some (header_for a.packet.from a.packet.message, a.packet.message)) = sym c.in_default-2.is
    ∙ c.in_ok-header.ensures ∙ a.says in
    cc

pub place_of-requires : goal.place_of-requires
place_of-requires g c =
    let r = c.requires.shown in
    let a = addressed r.0 r.1 r.2 c.args.self.now c.args.packet c.in-Some.node r.3 (sym c.receiver.ensures ∙ c.in-Some.is) in
    let few = r.3.few in
    let there = a.there in
    omega (arith, few, there)

pub deliver-answer-requires-clause-disk : goal.deliver-answer-requires-clause-disk
deliver-answer-requires-clause-disk g c =
    let state = g.D.Disk.state in
    let r = c.requires.shown in
    let a = addressed r.0 r.1 r.2 c.args.self.now c.args.packet c.in-Some.node r.3 (sym c.receiver.ensures ∙ c.in-Some.is) in
    let up : up_at c.args.self.now.nodes c.in-Some.node ≡ true = sym c.is_up.ensures ∙ search rules in
    may_write_at r.0 r.1 r.2 c.args.self.now.nodes c.in-Some.node.tier c.in-Some.node.index (map state c.args.disks.now)
    (state (slice_index_or c.args.disks.now c.place_of.result c.index-disks-place_of.result)) c.args.stop r.3.few r.3.nodes r.4
    a.there (disk_read state c.args.disks.now (place_of c.in-Some.node) c.place_of.result c.index-disks-place_of.result
    c.place_of.ensures.is c.place_of.ensures.within r.4.all) up

pub deliver-answer-requires-clause-reach : goal.deliver-answer-requires-clause-reach
deliver-answer-requires-clause-reach g c =
    let r = c.requires.shown in
    let a = addressed r.0 r.1 r.2 c.args.self.now c.args.packet c.in-Some.node r.3 (sym c.receiver.ensures ∙ c.in-Some.is) in
    let f = found_is c.in_ok-header.field-0 c.in-Some-2.header c.in-Some-2.msg a.packet c.in-Some-2.is (c.in_ok-header.ensures ∙ a.says) in
    reaches_at r.0 r.1 r.2 c.args.self.now.nodes c.in-Some.node c.in-Some-2.header.from c.in-Some-2.msg c.in-Some.node.tier r.3.nodes
    (subst (λ z. CanReach r.0 z c.in-Some.node.tier c.in-Some-2.msg) f.0 (subst (λ z. CanReach r.0 a.packet.from c.in-Some.node.tier z) f.1 a.reach))

pub send-requires-2 : goal.send-requires-2
send-requires-2 g c =
    let up : up_at c.args.self.now.nodes c.in-Some.node ≡ true = sym c.is_up.ensures ∙ search rules in
    nodes_fit c.args.self.now.nodes c.deliver-answer.ensures.between c.in-Some.node.tier c.in-Some.node.index _
    c.deliver-answer.ensures.called c.args.self.now.soup c.new-out.result c.deliver-answer.new.out
    (λ S k. k.on_frame c.in-Some-2.header.from c.in-Some-2.msg) _
    c.requires.few c.new-out.ensures up c.deliver-answer.ensures.moves c.in_ok-add_frame.ensures.memory

pub returns : goal.returns
returns g c =
    let state = g.D.Disk.state in
    let to : receiver_in (slice_get c.args.self.now.soup c.args.packet) ≡ Some c.in-Some.node = sym c.receiver.ensures ∙ c.in-Some.is in
    let up : up_at c.args.self.now.nodes c.in-Some.node ≡ true = sym c.is_up.ensures ∙ search rules in
    let disk = state (slice_index_or c.args.disks.now c.place_of.result c.index-disks-place_of.result) in
    let r = c.requires.shown in
    let here = disk_read state c.args.disks.now (place_of c.in-Some.node) c.place_of.result
    c.index-disks-place_of.result c.place_of.ensures.is c.place_of.ensures.within r.4.all in
    let answer = c.deliver-answer.result.0 in
    let met = c.deliver-answer.result.1 in
    let by = fared_by c.args.stop met answer in
    let called = subst (λ z. Called c.args.self.now.nodes c.deliver-answer.new.nodes c.in-Some.node.tier
    c.in-Some.node.index c.args.stop disk (state c.deliver-answer.new.disk) z c.deliver-answer.new.out
    (λ S k. k.on_frame c.in-Some-2.header.from c.in-Some-2.msg) answer met) c.new-out.ensures c.deliver-answer.ensures in
    plays_by c.args.self.now c.send-2.new.self c.deliver-answer.new.nodes c.deliver-answer.new.out
    (map state c.args.disks.now) _ (place_of c.in-Some.node) disk (state c.deliver-answer.new.disk)
    (asked_of c.args.stop) by c.fared-fared.result (told_frame c.in-Some.node met answer) c.args.lines.now
    c.add_frame.new.out (λ f. events.Deliver c.args.packet f) r
    (λ u depth w s d.
    let a = addressed u depth w c.args.self.now c.args.packet c.in-Some.node s to in
    let f = found_is c.in_ok-header.field-0 c.in-Some-2.header c.in-Some-2.msg a.packet c.in-Some-2.is (c.in_ok-header.ensures ∙ a.says) in
    let h = deliver_done u depth w c.args.self.now c.deliver-answer.new.nodes c.args.packet c.in-Some.node
    c.in-Some-2.header.from c.in-Some-2.msg c.args.stop (map state c.args.disks.now) disk
    (state c.deliver-answer.new.disk) c.deliver-answer.new.out answer met a f.0 f.1
    (record { few = s.few; nodes_are = s.nodes; disks_are = d; there = a.there; disk_is = here; up = up })
    c.requires.stop c.in_ok-add_frame.ensures.memory called in
    (h.0, h.1, place_is u w c.args.self.now c.args.packet c.in-Some.node a))
    refl (λ w. tt) here (disks_left state c.args.disks.now (place_of c.in-Some.node) c.place_of.result
    c.deliver-answer.new.disk c.place_of.ensures.is) c.fared-fared.ensures c.in_ok-send-3.ensures.0
    c.in_ok-send-3.ensures.1 c.in_ok-add_frame.ensures.told
