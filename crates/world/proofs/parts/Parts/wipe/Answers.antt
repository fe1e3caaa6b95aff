use Rattle.std.proofs.Common.{rules, ◌≡◌, ◌+◌, ◌*◌, ◌<◌, true, false, [], ◌∙◌, ap, sym, subst, append-nil, slice_index_or}
use Rattle.std.specs.Prelude.{map}
use Rattle.std.proofs.lemmas.Result.{on_ok_weaker}
use Rattle.run_model.specs.declared.trace.TraceEvent.TheVariants as events
use Rattle.run_model.specs.Text.{node_name, gone_line}
use Rattle.world.specs.Calling.{is_gone_in, parts_after}
use Rattle.world.specs.Disks.{place_of}
use Rattle.world.specs.NodeLists.{condition_at}
use Rattle.world.proofs.Calls.ArmedDisks.{disk_read, disks_left}
use Rattle.world.proofs.Power.CountsOfFaults.{falls_none}
use Rattle.world.proofs.Events.WholeEvents.{made}
use Rattle.world.proofs.Power.RestartEvents.{made_on, wiped_falls}
use Rattle.world.proofs.Power.Wipes.{wipe_by, wipe_rests}
use Rattle.world.proofs.Calls.NodesThere.{has_shown}
use Rattle.world.proofs.parts.Parts.wipe.Goals as goal

pub condition-requires : goal.condition-requires
condition-requires g c = let r = c.requires.shown in has_shown r.0 r.1 r.2 c.args.self.now c.args.node r.3 c.requires.there

pub wipe-requires : goal.wipe-requires
wipe-requires g c = let r = c.requires.shown in has_shown r.0 r.1 r.2 c.args.self.now c.args.node r.3 c.requires.there

pub returns-then-is_gone : goal.returns-then-is_gone
returns-then-is_gone g c =
    let disks = map g.D.Disk.state c.args.disks.now in
    let gone : is_gone_in (condition_at c.args.self.now.nodes c.args.node.tier c.args.node.index)
    ≡ true = ap is_gone_in (sym c.condition.ensures) ∙ sym c.is_gone.ensures ∙ search rules in
    on_ok_weaker c.send.result
    (λ sent u depth w s d. made u depth w c.args.self.now c.send.new.self c.args.self.now.nodes [] disks disks
    (events.Wipe c.args.node) (gone_line (node_name c.args.node)) c.args.lines.now c.add_gone.new.out s sent.1
    (wipe_rests u depth w c.args.self.now.nodes c.args.node disks c.args.node.tier s.few s.nodes d
    (subst (λ z. c.args.node.index < 2 * z + 1) s.size c.requires.there) gone)
    (sent.0 ∙ ap (parts_after c.args.self.now c.args.self.now.nodes) c.new.ensures) c.in_ok-add_gone.ensures
    (λ f. absurd (cc)) (falls_none disks) tt) c.send.ensures

pub returns : goal.returns
returns g c =
    let state = g.D.Disk.state in
    let r = c.requires.shown in
    let there : is_gone_in (condition_at c.args.self.now.nodes c.args.node.tier c.args.node.index)
    ≡ false = ap is_gone_in (sym c.condition.ensures) ∙ sym c.is_gone.ensures ∙ search rules in
    let disk = state (slice_index_or c.args.disks.now c.place_of.result c.index-disks-place_of.result) in
    let here = disk_read state c.args.disks.now (place_of c.args.node) c.place_of.result c.index-disks-place_of.result
    c.place_of.ensures.is c.place_of.ensures.within r.4.all in
    on_ok_weaker c.send-2.result
    (λ sent u depth w s d. made_on c.args.self.now c.send-2.new.self (map state c.args.disks.now) _ _
    c.args.lines.now (events.Wipe c.args.node) u depth w
    (disks_left state c.args.disks.now (place_of c.args.node) c.place_of.result c.erase.new.self c.place_of.ensures.is)
    (made u depth w c.args.self.now c.send-2.new.self c.wipe.new.self [] (map state c.args.disks.now) _
    (events.Wipe c.args.node) [] c.args.lines.now c.args.lines.now s sent.1
    (wipe_by u depth w c.args.self.now.nodes c.wipe.new.self c.args.node (map state c.args.disks.now) disk
    (state c.erase.new.self) c.args.node.tier s.few s.nodes d
    (subst (λ z. c.args.node.index < 2 * z + 1) s.size c.requires.there) here there c.wipe.ensures c.erase.ensures)
    (sent.0 ∙ ap (parts_after c.args.self.now c.wipe.new.self) c.new-2.ensures) (sym (append-nil c.args.lines.now))
    (λ f. absurd (cc))
    (wiped_falls (map state c.args.disks.now) (place_of c.args.node) disk (state c.erase.new.self) here
    c.erase.ensures) tt)) c.send-2.ensures
