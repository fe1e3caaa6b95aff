use Rattle.std.proofs.Common.{rules, ◌≡◌, true, false, ◌∙◌, refl, ap, sym, Some}
use Rattle.std.specs.Prelude.{map, slice_get}
use Rattle.frames.specs.declared.header.Refused.TheVariants as refusals
use Rattle.run_model.specs.declared.trace.Fared.TheVariants.{Fine}
use Rattle.run_model.specs.declared.trace.TraceEvent.TheVariants as events
use Rattle.run_model.specs.Text.{node_name, lost_line, drop_line}
use Rattle.world.specs.Calling.{parts_after}
use Rattle.world.specs.NodeLists.{up_at}
use Rattle.world.specs.Packets.{receiver_in, is_cut_in}
use Rattle.world.proofs.Calls.DeliveredPackets.{addressed, short_plays, short_refused, short_lost, cut_goes, has_receiver}
use Rattle.world.proofs.Events.WholeEvents.{plays_idle}
use Rattle.world.proofs.parts.Parts.short.Goals as goal

pub returns-then-not-is_cut : goal.returns-then-not-is_cut
returns-then-not-is_cut g c =
    let state = g.D.Disk.state in
    let whole : is_cut_in (slice_get c.args.self.now.soup c.args.packet) c.args.bytes ≡ false = sym c.is_cut.ensures ∙ search rules in
    short_plays c.args.self.now c.deliver.new.self (map state c.args.disks.now) (map state c.deliver.new.disks)
    c.args.lines.now c.deliver.new.lines c.args.packet c.args.bytes c.deliver.result whole c.deliver.ensures

pub unreachable-requires : goal.unreachable-requires
unreachable-requires g c =
    let r = c.requires.shown in
    let cut : is_cut_in (slice_get c.args.self.now.soup c.args.packet) c.args.bytes ≡ true = sym c.is_cut.ensures ∙ search rules in
    cut_goes r.0 r.1 r.2 c.args.self.now c.args.packet c.args.bytes r.3 cut (sym c.receiver.ensures ∙ c.in_default.is)

pub is_up-requires : goal.is_up-requires
is_up-requires g c = has_receiver c.args.self.now (map g.D.Disk.state c.args.disks.now) c.args.packet c.in-Some.node
    c.requires.shown (sym c.receiver.ensures ∙ c.in-Some.is)

pub returns-then-not-is_up : goal.returns-then-not-is_up
returns-then-not-is_up g c =
    let disks = map g.D.Disk.state c.args.disks.now in
    let cut : is_cut_in (slice_get c.args.self.now.soup c.args.packet) c.args.bytes ≡ true = sym c.is_cut.ensures ∙ search rules in
    let to : receiver_in (slice_get c.args.self.now.soup c.args.packet) ≡ Some c.in-Some.node = sym c.receiver.ensures ∙ c.in-Some.is in
    let there : up_at c.args.self.now.nodes c.in-Some.node ≡ false = sym c.is_up.ensures ∙ search rules in
    plays_idle c.args.self.now c.send.new.self disks Fine Fine (lost_line c.args.packet) c.args.lines.now
    c.add_lost.new.out (λ f. events.Short c.args.packet c.args.bytes f)
    (λ u depth w s d. short_lost u depth w c.args.self.now c.args.packet c.args.bytes c.in-Some.node disks s d cut
    (addressed u depth w c.args.self.now c.args.packet c.in-Some.node s to) there)
    refl (λ w. tt) refl (c.in_ok-send.ensures.0 ∙ ap (parts_after c.args.self.now c.args.self.now.nodes) c.new.ensures)
    c.in_ok-send.ensures.1 c.in_ok-add_lost.ensures

pub returns : goal.returns
returns g c =
    let disks = map g.D.Disk.state c.args.disks.now in
    let cut : is_cut_in (slice_get c.args.self.now.soup c.args.packet) c.args.bytes ≡ true = sym c.is_cut.ensures ∙ search rules in
    let to : receiver_in (slice_get c.args.self.now.soup c.args.packet) ≡ Some c.in-Some.node = sym c.receiver.ensures ∙ c.in-Some.is in
    let there : up_at c.args.self.now.nodes c.in-Some.node ≡ true = sym c.is_up.ensures ∙ search rules in
    plays_idle c.args.self.now c.send-2.new.self disks Fine Fine (drop_line (node_name c.in-Some.node) refusals.Short)
    c.args.lines.now c.add_drop.new.out (λ f. events.Short c.args.packet c.args.bytes f)
    (λ u depth w s d. short_refused u depth w c.args.self.now c.args.packet c.args.bytes c.in-Some.node disks s d cut
    (addressed u depth w c.args.self.now c.args.packet c.in-Some.node s to) there)
    refl (λ w. tt) refl (c.in_ok-send-2.ensures.0
    ∙ ap (parts_after c.args.self.now c.args.self.now.nodes) c.new-2.ensures) c.in_ok-send-2.ensures.1 c.in_ok-add_drop.ensures
