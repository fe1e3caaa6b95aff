use Rattle.std.proofs.Common.{map}
use Rattle.aegean_main.proofs.PlayLaws.{breaks_first, starts_alone, stands_first, starts_off}
use Rattle.aegean_main.proofs.playing.start.Goals as goal

pub returns-in-Err-clause-stands : goal.returns-in-Err-clause-stands
returns-in-Err-clause-stands g c = breaks_first c.args.script.now (g.K.Sink.taken c.args.out.now)

pub returns-in-Ok-clause-stands : goal.returns-in-Ok-clause-stands
returns-in-Ok-clause-stands g c =
    stands_first c.args.script.now c.args.world.now c.start.new.self (map g.D.Disk.state c.args.disks.now)
    (map g.D.Disk.state c.start.new.disks) c.items.result.now (g.K.Sink.taken c.args.out.now)
    (g.K.Sink.taken c.put_all.new.out) c.requires.few c.requires.new
    (starts_alone c.args.world.now c.start.new.self (map g.D.Disk.state c.args.disks.now)
    (map g.D.Disk.state c.start.new.disks) c.new-lines.result c.start.new.lines c.items.result.now
    c.new-lines.ensures c.items.ensures c.in_default.ensures.starts) c.in-Ok.ensures.ok

pub returns-clause-stands : goal.returns-clause-stands
returns-clause-stands g c =
    starts_off c.args.script.now c.args.world.now c.start.new.self (map g.D.Disk.state c.args.disks.now)
    (map g.D.Disk.state c.start.new.disks) c.items.result.now (g.K.Sink.taken c.args.out.now)
    (g.K.Sink.taken c.put_all.new.out) c.requires.few c.requires.new
    (starts_alone c.args.world.now c.start.new.self (map g.D.Disk.state c.args.disks.now)
    (map g.D.Disk.state c.start.new.disks) c.new-lines.result c.start.new.lines c.items.result.now
    c.new-lines.ensures c.items.ensures c.in_default.ensures.starts) c.in-Err-put_all.ensures.prefix
