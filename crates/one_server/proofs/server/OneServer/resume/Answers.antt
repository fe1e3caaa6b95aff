use Rattle.std.proofs.Common.{◌≡◌, Some, rules}
use Rattle.server_model.specs.Booking.{booking_table}
use Rattle.server_model.specs.Server.{progress_of, code_of}
use Rattle.server_model.specs.Single.{booking_meaning}
use Rattle.one_server.specs.Writes.{Runs}
use Rattle.one_server.proofs.StepLaws.{resume_ends}
use Rattle.one_server.proofs.server.OneServer.resume.Goals as goal

pub returns : goal.returns
returns c =
    let there : progress_of c.args.self.now c.args.who.client ≡ Some c.in-Some.progress.now = search rules in
    let same_seq : c.in-Some.progress.now.seq ≡ c.args.who.seq = search rules in
    let text : c.in_ok-body.body ≡ c.in-Some.progress.now.body = search rules in
    let served : code_of c.args.self.now c.in-Some.progress.now.tier c.in-Some.progress.now.number ≡ Some c.in-Some-find.code = search rules in
    let runs : Runs (booking_table c.args.who c.in_ok-body.body c.in-Some.progress.now.stage) (Some c.in-Some-find.code)
    c.args.self.now.store (Some c.in-Some-2.ran) = search rules in
    resume_ends booking_meaning c.args.self.now c.end.new.self c.args.who c.args.number c.in-Some.progress.now
    c.in_ok-body.body c.in-Some-find.code c.in-Some-2.ran c.end.result there same_seq text served runs c.end.ensures
