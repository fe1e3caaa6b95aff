use Rattle.std.proofs.Common.{◌∙◌, sym, length}
use Rattle.std.specs.Prelude.{map}
use Rattle.std.proofs.lemmas.Bool.{ltb-true, ltb-false}
use Rattle.aeg_base.specs.declared.limits.TheConstants.{PACKETS_BEFORE}
use Rattle.world.specs.Run.{world_of}
use Rattle.world.specs.Going.{run_of}
use Rattle.world.proofs.Events.OneMore.{flow_rests, flow_stops, flow_goes}
use Rattle.world.proofs.progress.Progress.flow.Goals as goal

pub returns-in_default-clause-goes : goal.returns-in_default-clause-goes
returns-in_default-clause-goes g c = flow_rests c.args.self.now c.packets-self.result
    (map g.D.Disk.state c.args.disks.now) c.args.lines.now c.requires.step.0 c.packets-self.ensures.is
    (sym c.in_default.is
    ∙ c.next.ensures.is c.args.self.now.parts.u c.args.self.now.depth (world_of (run_of c.args.self.now)) c.requires.step.0)

pub returns-then-is_full-clause-goes : goal.returns-then-is_full-clause-goes
returns-then-is_full-clause-goes g c = flow_stops c.args.self.now c.in-Some.packet (map g.D.Disk.state c.args.disks.now)
    c.args.lines.now c.requires.step.0
    (ltb-true PACKETS_BEFORE (length c.args.self.now.parts.soup) (sym c.is_full.ensures ∙ c.if-is_full.true))
    (sym c.in-Some.is
    ∙ c.next.ensures.is c.args.self.now.parts.u c.args.self.now.depth (world_of (run_of c.args.self.now)) c.requires.step.0)

pub returns-clause-goes : goal.returns-clause-goes
returns-clause-goes g c = flow_goes c.args.self.now c.deliver.new.self c.in-Some.packet
    (map g.D.Disk.state c.args.disks.now) (map g.D.Disk.state c.deliver.new.disks) c.args.lines.now c.deliver.new.lines
    c.requires.step.0 (ltb-false PACKETS_BEFORE (length c.args.self.now.parts.soup) (sym c.is_full.ensures
    ∙ c.if-is_full.false)) (sym c.in-Some.is
    ∙ c.next.ensures.is c.args.self.now.parts.u c.args.self.now.depth (world_of (run_of c.args.self.now))
    c.requires.step.0) c.in_ok-deliver.ensures
