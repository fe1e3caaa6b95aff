use Rattle.std.proofs.Common.{◌+◌, ◌*◌, ◌<◌, [], ◌∙◌, ap, sym, subst}
use Rattle.std.specs.Prelude.{map, codes}
use Rattle.run_model.specs.declared.trace.Found.TheVariants.{Reads}
use Rattle.run_model.specs.declared.trace.TraceEvent.TheVariants as events
use Rattle.run_model.specs.Text.{node_name, idle_line, gone_line}
use Rattle.world.specs.Calling.{parts_after}
use Rattle.world.proofs.Events.WholeEvents.{made}
use Rattle.world.proofs.Power.CountsOfFaults.{falls_none}
use Rattle.world.proofs.Power.RestartEvents.{zero_least, same_soup}
use Rattle.world.proofs.Power.Restarts.{restart_up, restart_gone}
use Rattle.world.proofs.Calls.NodesThere.{has_shown}
use Rattle.world.proofs.parts.Parts.restart.Goals as goal

pub condition-requires : goal.condition-requires
condition-requires g c = let r = c.requires.shown in has_shown r.0 r.1 r.2 c.args.self.now c.args.node r.3 c.requires.there

pub returns-in_ok-send-in-Up-clause-plays : goal.returns-in_ok-send-in-Up-clause-plays
returns-in_ok-send-in-Up-clause-plays g c =
    let disks = map g.D.Disk.state c.args.disks.now in
    λ u depth w s d. made u depth w c.args.self.now c.send.new.self c.args.self.now.nodes [] disks disks
    (events.Restart c.args.node (Reads 0)) (idle_line (node_name c.args.node) (codes "up")) c.args.lines.now
    c.add_idle_up.new.out s c.in_ok-send-in-Up.ensures.1
    (restart_up u depth w c.args.self.now.nodes c.args.node disks (Reads 0) c.args.node.tier s.few s.nodes d
    (subst (λ z. c.args.node.index < 2 * z + 1) s.size c.requires.there) (sym c.condition.ensures ∙ c.in-Up.is))
    (c.in_ok-send-in-Up.ensures.0 ∙ ap (parts_after c.args.self.now c.args.self.now.nodes) c.new.ensures)
    c.in_ok-add_idle_up-in-Up.ensures (λ f. absurd (cc)) (falls_none disks) (zero_least w c.args.node)

pub returns-in_ok-send-in-Gone-clause-plays : goal.returns-in_ok-send-in-Gone-clause-plays
returns-in_ok-send-in-Gone-clause-plays g c =
    let disks = map g.D.Disk.state c.args.disks.now in
    λ u depth w s d. made u depth w c.args.self.now c.send-in-Gone.new.self c.args.self.now.nodes [] disks disks
    (events.Restart c.args.node (Reads 0)) (gone_line (node_name c.args.node)) c.args.lines.now c.add_gone.new.out s
    c.in_ok-send-in-Gone.ensures.1
    (restart_gone u depth w c.args.self.now.nodes c.args.node disks (Reads 0) c.args.node.tier s.few s.nodes d
    (subst (λ z. c.args.node.index < 2 * z + 1) s.size c.requires.there) (sym c.condition.ensures ∙ c.in-Gone.is))
    (c.in_ok-send-in-Gone.ensures.0 ∙ ap (parts_after c.args.self.now c.args.self.now.nodes) c.new-in-Gone.ensures)
    c.in_ok-add_gone-in-Gone.ensures (λ f. absurd (cc)) (falls_none disks) (zero_least w c.args.node)

pub bring_up-requires-clause-down : goal.bring_up-requires-clause-down
bring_up-requires-clause-down g c = sym c.condition.ensures ∙ c.in-Down.is

pub returns-in_ok-send-in-Up-clause-silent : goal.returns-in_ok-send-in-Up-clause-silent
returns-in_ok-send-in-Up-clause-silent g c = same_soup c.args.self.now c.send.new.self c.args.self.now.nodes
    c.new.result c.in_ok-send-in-Up.ensures.0 c.new.ensures

pub returns-in_ok-send-in-Gone-clause-silent : goal.returns-in_ok-send-in-Gone-clause-silent
returns-in_ok-send-in-Gone-clause-silent g c = same_soup c.args.self.now c.send-in-Gone.new.self c.args.self.now.nodes
    c.new-in-Gone.result c.in_ok-send-in-Gone.ensures.0 c.new-in-Gone.ensures
