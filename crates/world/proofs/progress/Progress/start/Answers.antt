use Rattle.std.specs.Prelude.{map}
use Rattle.world.proofs.Events.RestartsInTurn.{three_tiers, all_started}
use Rattle.world.proofs.progress.Progress.start.Goals as goal

pub returns-clause-starts : goal.returns-clause-starts
returns-clause-starts g c =
    let state = g.D.Disk.state in
    all_started c.args.self.now c.restart_tier-3.new.self (map state c.args.disks.now)
    (map state c.restart_tier-3.new.disks) c.args.lines.now c.restart_tier-3.new.lines c.requires.new
    (three_tiers c.args.self.now c.restart_tier.new.self c.restart_tier-2.new.self c.restart_tier-3.new.self
    (map state c.args.disks.now) (map state c.restart_tier.new.disks) (map state c.restart_tier-2.new.disks)
    (map state c.restart_tier-3.new.disks)
    c.args.lines.now c.restart_tier.new.lines c.restart_tier-2.new.lines c.restart_tier-3.new.lines
    c.in_ok-restart_tier.ensures.restarted c.in_ok-restart_tier-2.ensures.restarted c.in_ok-restart_tier-3.ensures.restarted)
