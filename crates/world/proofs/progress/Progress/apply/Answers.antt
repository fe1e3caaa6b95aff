use Rattle.std.proofs.Common.{sym, subst, false, Ok}
use Rattle.std.specs.Prelude.{map}
use Rattle.world.specs.Going.{GoesBy}
use Rattle.world.proofs.progress.Progress.apply.Goals as goal

pub returns-in-Lose-clause-goes : goal.returns-in-Lose-clause-goes
returns-in-Lose-clause-goes g c =
    let disks = map g.D.Disk.state c.args.disks.now in
    subst (λ z. GoesBy c.args.self.now c.lose.new.self disks disks c.args.lines.now c.args.lines.now z (Ok false))
    (sym c.in-Lose.is) (c.lose.ensures disks c.args.lines.now)
