use Rattle.world.specs.Commands.{row_of}
use Rattle.world.proofs.Calls.ArmedDisks.{called_by, move_has}
use Rattle.world.proofs.parts.calls.obey.Goals as goal

pub power-met-requires : goal.power-met-requires
power-met-requires g c =
    let disk = g.D.Disk.state in
    move_has c.args.nodes.now c.obey-answer.new.self c.args.node.tier c.args.node.index (disk c.arm.new.disk)
    (disk c.obey-answer.new.disk) c.args.out.now c.obey-answer.new.out (λ S k. row_of c.args.command k)
    c.obey-answer.result c.requires.up c.obey-answer.ensures

pub returns : goal.returns
returns g c =
    let disk = g.D.Disk.state in
    called_by c.args.nodes.now c.obey-answer.new.self c.power-met.new.nodes c.args.node c.args.stop
    (disk c.args.disk.now) (disk c.arm.new.disk) (disk c.obey-answer.new.disk) (disk c.power-met.new.disk)
    c.args.out.now c.obey-answer.new.out (λ S k. row_of c.args.command k) c.obey-answer.result c.power-met.result
    c.arm.ensures c.obey-answer.ensures c.power-met.ensures.met c.power-met.ensures.rests c.power-met.ensures.sure
