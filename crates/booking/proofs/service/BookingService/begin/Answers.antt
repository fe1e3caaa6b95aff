use Rattle.std.proofs.Common.{ℕ, List, ap, sym, ◌∙◌}
use Rattle.server_model.specs.Requests.{request_of}
use Rattle.booking.specs.Reading.{answered}
use Rattle.booking.proofs.Begun.{read_ok, begins}
use Rattle.booking.proofs.service.BookingService.begin.Goals as goal

pub returns : goal.returns
returns c = begins c.args.who c.args.body.now c.args.stage c.in-Ok.request
    (record { alloc = c.args.self.now.alloc; course = c.in-Some.course; lock_set = c.lock_set.result })
    (read_ok (request_of c.args.body.now) c.in-Ok.request (sym c.in-Ok.is ∙ c.read_request.ensures
    ∙ ap (λ (text : List ℕ). answered (request_of text)) c.items.ensures))
    (sym c.in-Some.is ∙ c.first_course.ensures)
    c.lock_set.ensures
