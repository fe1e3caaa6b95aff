-- Where the segments of requests begin.
use Rattle.std.specs.Prelude.{ℕ, ◌==◌, Bool, true, false, List, if◌then◌else◌, Option, Some, None, unwrap_or}
use Rattle.std.specs.declared.result.Result.{Result}
use Rattle.std.specs.declared.result.Result.TheVariants.{Ok, Err}
use Rattle.aeg_base.specs.Locks.{with_lock, lock_number}
use Rattle.aeg_base.specs.declared.names.ReqId.{ReqId}
use Rattle.svc_api.specs.Segment.{Beginning}
use Rattle.server_model.specs.Booking.{cell, booking_of, declared_locks}
use Rattle.server_model.specs.Requests.{request_of}
use Rattle.server_model.specs.declared.request.Request.{Request}
use Rattle.server_model.specs.declared.request.Request.TheVariants.{Open, Book, Cancel, Look}
use Rattle.booking.specs.Course.{course_plan}
use Rattle.booking.specs.declared.course.NewBooking.{NewBooking}
use Rattle.booking.specs.declared.course.OpenPlace.TheVariants as opening
use Rattle.booking.specs.declared.course.BookPlace.TheVariants as booking
use Rattle.booking.specs.declared.course.Asked.TheVariants.{Reserve, Charge}
use Rattle.booking.specs.declared.course.Closing.TheVariants.{Declined}
use Rattle.booking.specs.declared.course.ClearPlace.TheVariants as clearing
use Rattle.booking.specs.declared.course.ViewPlace.TheVariants as viewing
use Rattle.booking.specs.declared.course.RecallPlace.TheVariants as recalling
use Rattle.booking.specs.declared.course.Course.{Course}
use Rattle.booking.specs.declared.course.Course.TheVariants.{Opens, Books, Answers, Clears, Views, Recalls}

abbrev pub new_booking : ReqId → ℕ → ℕ → NewBooking
new_booking who trip qty = record { client = who.client; booking = booking_of who; trip = trip; qty = qty }

abbrev pub with_booking : NewBooking → ℕ → Option Course
with_booking b stage =
    if stage == 0 then Some (Books b booking.Begins)
    else if stage == 1 then Some (Answers b Reserve)
    else if stage == 2 then Some (Answers b Charge)
    else if stage == 3 then Some (Clears b.booking Declined clearing.Status)
    else None

abbrev pub view_course : ℕ → ℕ → Bool → Course
view_course client booking cancels = Views (record { client = client; booking = booking; cancels = cancels }) viewing.Begins

abbrev pub recall_course : ℕ → ℕ → Bool → Course
recall_course client booking released = Recalls (record { client = client; booking = booking; released = released }) recalling.Begins

abbrev pub cancel_course : ℕ → ℕ → ℕ → Option Course
cancel_course client booking stage =
    if stage == 0 then Some (view_course client booking true)
    else if stage == 1 then Some (recall_course client booking false)
    else if stage == 2 then Some (recall_course client booking true)
    else None

-- where a request's segment begins at a stage, if it has one
abbrev pub first_course : ReqId → Request → ℕ → Option Course
first_course who (Open trip cap price link) stage =
    if stage == 0 then Some (Opens (record { trip = trip; cap = cap; price = price; link = link }) opening.Begins) else None
first_course who (Book trip qty) stage = with_booking (new_booking who trip qty) stage
first_course who (Cancel booking) stage = cancel_course who.client booking stage
first_course who (Look booking) stage = if stage == 0 then Some (view_course who.client booking false) else None

abbrev pub begins_at : List Bool → Option Course → Option Beginning
begins_at locks None = None
begins_at locks (Some course) = Some (record { plan = λ answer. course_plan course (unwrap_or answer 0); locks = locks })

abbrev pub beginning_in : ReqId → ℕ → Result Request ℕ → Option Beginning
beginning_in who stage (Ok request) = begins_at (declared_locks who request) (first_course who request stage)
beginning_in who stage (Err row) = None

-- how a request's segment begins, with the locks that it declares
abbrev pub booking_beginning : ReqId → List ℕ → ℕ → Option Beginning
booking_beginning who body stage = beginning_in who stage (request_of body)

-- LOCKS

abbrev pub with_key : List Bool → ℕ → ℕ → List Bool
with_key locks class id = with_lock locks (lock_number (cell class id))

-- a trip's cap, price and link
abbrev pub with_trip : List Bool → ℕ → List Bool
with_trip locks trip = with_key (with_key (with_key locks 2 trip) 1 trip) 0 trip

-- a booking's status, trip and quantity
abbrev pub with_own : List Bool → ℕ → List Bool
with_own locks booking = with_key (with_key (with_key locks 7 booking) 6 booking) 5 booking
