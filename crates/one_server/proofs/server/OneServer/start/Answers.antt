use Rattle.std.proofs.Common.{◌≡◌, ◌+◌, None, Some, rules}
use Rattle.server_model.specs.Booking.{booking_table}
use Rattle.server_model.specs.Server.{last_of, progress_of}
use Rattle.server_model.specs.Single.{booking_meaning}
use Rattle.one_server.specs.Writes.{Runs}
use Rattle.one_server.proofs.StepLaws.{start_ends}
use Rattle.one_server.proofs.server.OneServer.start.Goals as goal

pub returns-in-Some-2 : goal.returns-in-Some-2
returns-in-Some-2 c =
    let next : c.args.who.seq ≡ last_of c.args.self.now c.args.who.client + 1 = search rules in
    let free : progress_of c.args.self.now c.args.who.client ≡ None = search rules in
    let runs : Runs (booking_table c.args.who c.args.body.now 0) None c.args.self.now.store (Some c.in-Some-2.ran) = search rules in
    start_ends booking_meaning c.args.self.now c.end.new.self c.args.who c.args.number c.args.body.now c.in-Some-2.ran c.end.result next free runs c.end.ensures
