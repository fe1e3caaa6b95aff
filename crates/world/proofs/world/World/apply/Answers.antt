use Rattle.std.proofs.Common.{◌∙◌, ap, sym}
use Rattle.std.specs.Prelude.{map}
use Rattle.world.specs.Going.{run_with}
use Rattle.world.proofs.Events.EndedWorlds.{within_after, applies_ended, applies_in, further_in}
use Rattle.world.proofs.world.World.apply.Goals as goal

pub returns-then-self-clause-applies : goal.returns-then-self-clause-applies
returns-then-self-clause-applies g c = applies_ended c.args.self.now c.args.self.now
    (map g.D.Disk.state c.args.disks.now) (map g.D.Disk.state c.args.disks.now) c.args.lines.now c.args.lines.now c.args.line.now

pub returns-clause-applies : goal.returns-clause-applies
returns-clause-applies g c =
    applies_in c.args.self.now c.self.inside.progress c.apply-answer.new.self c.ends-self-inside.result
    (map g.D.Disk.state c.args.disks.now) (map g.D.Disk.state c.apply-answer.new.disks) c.args.lines.now
    c.apply-answer.new.lines c.args.line.now c.apply-answer.result
    (sym c.self.view_is ∙ ap (λ z. run_with z c.self.inside.progress) c.if-self.false) c.ends-self-inside.ensures.0 c.apply-answer.ensures.goes.0

pub returns-clause-further : goal.returns-clause-further
returns-clause-further g c =
    further_in c.args.self.now c.self.inside.progress c.apply-answer.new.self c.ends-self-inside.result
    c.apply-answer.result (sym c.self.view_is ∙ ap (λ z. run_with z c.self.inside.progress) c.if-self.false)
    c.apply-answer.ensures.further

pub returns-clause-within : goal.returns-clause-within
returns-clause-within g c = within_after c.apply-answer.new.self c.apply-answer.result c.apply-answer.ensures.goes.1
