use Rattle.std.proofs.Common.{◌≡◌, subst}
use Rattle.std.specs.Prelude.{map}
use Rattle.std.proofs.lemmas.Result.{on_ok_weaker}
use Rattle.world.specs.Arming.{asked_of}
use Rattle.world.specs.Commands.{event_of}
use Rattle.world.proofs.Calls.EventsOfCommands.{becomes_by}
use Rattle.world.proofs.Events.OneMore.{noted, one_more}
use Rattle.world.proofs.progress.Progress.command.Goals as goal

pub returns : goal.returns
returns g c =
    let state = g.D.Disk.state in
    on_ok_weaker c.note.result
    (λ e. one_more c.args.self.now c.note.new.self c.command.new.self
    (event_of c.args.command c.args.node (asked_of c.args.stop))
    (event_of c.args.command c.args.node c.in_ok-fared.fared) c.args.self.now.cursor (map state c.args.disks.now)
    (map state c.command.new.disks) c.args.lines.now c.command.new.lines c.requires.step
    (becomes_by c.args.command c.args.node (asked_of c.args.stop) c.in_ok-fared.fared c.in_ok-fared.ensures.0)
    c.in_ok-fared.ensures.1
    (subst (λ z. c.note.new.self ≡ noted c.args.self.now c.command.new.self z c.args.self.now.cursor)
    c.event.ensures e)) c.note.ensures
