use Rattle.std.proofs.Common.{◌∙◌, ap, rules, sym}
use Rattle.std.specs.Prelude.{map}
use Rattle.world.specs.Run.{Run}
use Rattle.world.specs.Going.{run_with}
use Rattle.world.proofs.Events.RestartsInTurn.{stands_blank}
use Rattle.world.proofs.Events.EndedWorlds.{starts_in}
use Rattle.world.proofs.world.World.start.Goals as goal

pub start-answer-requires-clause-step : goal.start-answer-requires-clause-step
start-answer-requires-clause-step g c =
    let goes_on = ap (λ (r : Run). r.has_ended) c.self.view_is ∙ ap (λ (r : Run). r.has_ended) c.requires.new in
    stands_blank c.args.self.now c.self.inside.progress (map g.D.Disk.state c.args.disks.now) (sym c.self.view_is
    ∙ ap (λ z. run_with z c.self.inside.progress) goes_on) (c.self.invariant goes_on) c.requires.new c.requires.blank

pub returns-clause-starts : goal.returns-clause-starts
returns-clause-starts g c =
    let goes_on = ap (λ (r : Run). r.has_ended) c.self.view_is ∙ ap (λ (r : Run). r.has_ended) c.requires.new in
    starts_in c.args.self.now c.self.inside.progress c.start-answer.new.self c.is_err-self-inside.result
    (map g.D.Disk.state c.args.disks.now) (map g.D.Disk.state c.start-answer.new.disks) c.args.lines.now
    c.start-answer.new.lines c.start-answer.result
    (sym c.self.view_is ∙ ap (λ z. run_with z c.self.inside.progress) goes_on) (search rules) c.start-answer.ensures.starts
