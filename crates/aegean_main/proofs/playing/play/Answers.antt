use Rattle.std.proofs.Common.{◌≡◌, [], ◌∙◌, map, Ok}
use Rattle.aegean_main.proofs.PlayLaws.{made_alone}
use Rattle.aegean_main.proofs.playing.play.Goals as goal

pub returns-in-Ok-put_all-clause-plays : goal.returns-in-Ok-put_all-clause-plays
returns-in-Ok-put_all-clause-plays g c =
    let room : c.of-lines.result ≡ [] = (let value = c.replace.ensures.value in let is = c.of-lines.ensures in let cleared = c.clear.ensures.items in cc) in (
      c.deref.result.now,
      made_alone c.args.world.now c.apply-made.new.self (map g.D.Disk.state c.args.disks.now)
          (map g.D.Disk.state c.apply-made.new.disks) c.of-lines.result c.apply-made.new.lines c.deref.result.now
          c.args.line.now (Ok c.in-Ok.again) room
          (c.deref.ensures.value ∙ c.into_vec.ensures) c.in-Ok.ensures.applies,
      c.in-Ok-put_all.ensures.ok,
    )

pub returns-in-Err-clause-plays : goal.returns-in-Err-clause-plays
returns-in-Err-clause-plays g c =
    let room : c.of-lines.result ≡ [] = (let value = c.replace.ensures.value in let is = c.of-lines.ensures in let cleared = c.clear.ensures.items in cc) in (
      c.deref.result.now,
      c.in-Ok.again,
      made_alone c.args.world.now c.apply-made.new.self (map g.D.Disk.state c.args.disks.now)
          (map g.D.Disk.state c.apply-made.new.disks) c.of-lines.result c.apply-made.new.lines c.deref.result.now
          c.args.line.now (Ok c.in-Ok.again) room
          (c.deref.ensures.value ∙ c.into_vec.ensures) c.in-Ok.ensures.applies,
      c.in-Err.ensures.prefix,
    )
