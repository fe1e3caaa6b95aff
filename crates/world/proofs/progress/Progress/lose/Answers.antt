use Rattle.world.proofs.Events.OneMore.{all_lost}
use Rattle.world.proofs.progress.Progress.lose.Goals as goal

pub returns : goal.returns
returns c = λ disks lines. all_lost c.args.self.now c.packets-self.result disks lines c.requires c.packets-self.ensures.is
