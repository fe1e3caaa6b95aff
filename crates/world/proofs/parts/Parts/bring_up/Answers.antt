use Rattle.std.proofs.Common.{◌+◌, ◌*◌, ◌<◌, ◌∙◌, ap, subst, slice_index_or}
use Rattle.std.specs.Prelude.{map}
use Rattle.world.specs.Calling.{parts_after}
use Rattle.world.specs.Disks.{place_of}
use Rattle.world.proofs.Calls.ArmedDisks.{disk_read, disks_left}
use Rattle.world.proofs.Power.Restarts.{may_read, keep_tiers, is_down_there, restart_by}
use Rattle.world.proofs.Power.RestartEvents.{rising, same_soup}
use Rattle.world.proofs.parts.Parts.bring_up.Goals as goal

pub restart-answer-requires-clause-down : goal.restart-answer-requires-clause-down
restart-answer-requires-clause-down g c =
    let r = c.requires.shown in
    is_down_there r.0 r.1 r.2 c.args.self.now.nodes c.args.node.tier c.args.node.index r.3.nodes
    (subst (λ z. c.args.node.index < 2 * z + 1) r.3.size c.requires.there) c.requires.down

pub restart-answer-requires-clause-disk : goal.restart-answer-requires-clause-disk
restart-answer-requires-clause-disk g c =
    let state = g.D.Disk.state in
    let r = c.requires.shown in
    may_read r.0 r.1 r.2 c.args.self.now.nodes c.args.node.tier c.args.node.index (map state c.args.disks.now)
    (state (slice_index_or c.args.disks.now c.place_of.result c.index-disks-place_of.result)) r.3.few r.3.nodes r.4
    (subst (λ z. c.args.node.index < 2 * z + 1) r.3.size c.requires.there)
    (disk_read state c.args.disks.now (place_of c.args.node) c.place_of.result c.index-disks-place_of.result
    c.place_of.ensures.is c.place_of.ensures.within r.4.all)

pub restart-answer-requires-clause-tiers : goal.restart-answer-requires-clause-tiers
restart-answer-requires-clause-tiers g c =
    let r = c.requires.shown in
    keep_tiers r.0 r.1 r.2 c.args.self.now.nodes r.3.nodes

pub returns-clause-plays : goal.returns-clause-plays
returns-clause-plays g c =
    let state = g.D.Disk.state in
    let r = c.requires.shown in
    let disk = state (slice_index_or c.args.disks.now c.place_of.result c.index-disks-place_of.result) in
    let here = disk_read state c.args.disks.now (place_of c.args.node) c.place_of.result c.index-disks-place_of.result
    c.place_of.ensures.is c.place_of.ensures.within r.4.all in
    rising c.args.self.now c.send.new.self c.restart-answer.new.nodes c.args.node (map state c.args.disks.now) _ disk
    (state c.restart-answer.new.disk) c.restart-answer.result c.found-found.result c.args.lines.now c.add_restart.new.out here
    (disks_left state c.args.disks.now (place_of c.args.node) c.place_of.result c.restart-answer.new.disk
    c.place_of.ensures.is) c.found-found.ensures (c.in_ok-send.ensures.0
    ∙ ap (parts_after c.args.self.now c.restart-answer.new.nodes) c.new.ensures) c.in_ok-send.ensures.1
    c.in_ok-add_restart.ensures.told
    (λ u depth w s d. restart_by u depth w c.args.self.now.nodes c.restart-answer.new.nodes c.args.node
    (map state c.args.disks.now) disk (state c.restart-answer.new.disk) c.restart-answer.result c.args.node.tier
    s.few s.nodes d (subst (λ z. c.args.node.index < 2 * z + 1) s.size c.requires.there) here c.requires.down
    c.in_ok-add_restart.ensures.memory c.restart-answer.ensures)

pub returns-clause-silent : goal.returns-clause-silent
returns-clause-silent g c = same_soup c.args.self.now c.send.new.self c.restart-answer.new.nodes c.new.result c.in_ok-send.ensures.0 c.new.ensures
