use Rattle.std.proofs.Common.{◌∙◌}
use Rattle.std.specs.Prelude.{map}
use Rattle.world.proofs.Events.RestartsInTurn.{restarted_none, one_further}
use Rattle.world.proofs.progress.Progress.restart_tier.Goals as goal

pub loop-index-init : goal.loop-index-init
loop-index-init g c = record {
  restarted = restarted_none c.args.self.now (map g.D.Disk.state c.args.disks.now)
      c.args.lines.now c.requires.step;
  none = c.requires.none;
}

pub loop-index-preserved : goal.loop-index-preserved
loop-index-preserved g c =
    let state = g.D.Disk.state in
    record {
      restarted = one_further c.args.self.now c.loop-index.self c.restart.new.self (map state c.args.disks.now)
          (map state c.loop-index.disks) (map state c.restart.new.disks) c.args.lines.now c.loop-index.lines
          c.restart.new.lines c.args.tier c.loop-index.index c.loop-index.invariant.restarted c.in_ok-restart.ensures.adds;
      none = c.in_ok-restart.ensures.silent ∙ c.loop-index.invariant.none;
    }
