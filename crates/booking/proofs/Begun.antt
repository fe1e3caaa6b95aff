-- A program that is made for a request begins its segment.
use Rattle.std.proofs.Common.{◌≡◌, ℕ, ◌≤◌, List, Option, Some, unwrap_or, refl, sym, subst, lit≤}
use Rattle.std.specs.declared.result.Result.{Result}
use Rattle.std.specs.declared.result.Result.TheVariants.{Ok, Err}
use Rattle.aeg_base.specs.declared.names.ReqId.{ReqId}
use Rattle.svc_api.specs.Segment.{Begins}
use Rattle.server_model.specs.Booking.{declared_locks}
use Rattle.server_model.specs.Requests.{request_of}
use Rattle.server_model.specs.declared.request.Request.{Request}
use Rattle.booking.specs.Reading.{answered}
use Rattle.booking.specs.Course.{course_plan, course_budget, open_budget, book_budget, entry_budget, return_budget, clear_budget, view_budget, recall_budget}
use Rattle.booking.specs.Beginning.{first_course, begins_at, beginning_in, booking_beginning}
use Rattle.booking.specs.declared.program.BookProg.{BookProg}
use Rattle.booking.specs.declared.course.OpenPlace.{OpenPlace}
use Rattle.booking.specs.declared.course.OpenPlace.TheVariants as opening
use Rattle.booking.specs.declared.course.BookPlace.{BookPlace}
use Rattle.booking.specs.declared.course.BookPlace.TheVariants as booking
use Rattle.booking.specs.declared.course.EntryPlace.{EntryPlace}
use Rattle.booking.specs.declared.course.EntryPlace.TheVariants as entering
use Rattle.booking.specs.declared.course.ReturnPlace.{ReturnPlace}
use Rattle.booking.specs.declared.course.ReturnPlace.TheVariants as returning
use Rattle.booking.specs.declared.course.ClearPlace.{ClearPlace}
use Rattle.booking.specs.declared.course.ClearPlace.TheVariants as clearing
use Rattle.booking.specs.declared.course.ViewPlace.{ViewPlace}
use Rattle.booking.specs.declared.course.ViewPlace.TheVariants as viewing
use Rattle.booking.specs.declared.course.RecallPlace.{RecallPlace}
use Rattle.booking.specs.declared.course.RecallPlace.TheVariants as recalling
use Rattle.booking.specs.declared.course.Course.{Course}
use Rattle.booking.specs.declared.course.Course.TheVariants.{Opens, Books, Enters, Answers, Charges, Booked, Returns, Clears, Releases, Views, Recalls}

open_low : (p : OpenPlace) → open_budget p ≤ 32
open_low opening.Begins = lit≤ tt
open_low opening.HasCap = lit≤ tt
open_low opening.PutsPrice = lit≤ tt
open_low opening.PutsLink = lit≤ tt
open_low opening.Opened = lit≤ tt

book_low : (p : BookPlace) → book_budget p ≤ 32
book_low booking.Begins = lit≤ tt
book_low booking.HasCap = lit≤ tt
book_low (booking.HasCount cap) = lit≤ tt
book_low (booking.HasLink cap count) = lit≤ tt
book_low (booking.HasLive cap count link) = lit≤ tt
book_low (booking.HasLinkCap state) = lit≤ tt
book_low (booking.HasLinkCount state link_cap) = lit≤ tt

entry_low : (p : EntryPlace) → entry_budget p ≤ 32
entry_low (entering.PutsLinkCount state link_count) = lit≤ tt
entry_low (entering.PutsLive live) = lit≤ tt
entry_low entering.PutsStatus = lit≤ tt
entry_low entering.PutsTrip = lit≤ tt
entry_low entering.PutsQty = lit≤ tt
entry_low entering.Reserves = lit≤ tt

return_low : (p : ReturnPlace) → return_budget p ≤ 32
return_low returning.HasCount = lit≤ tt
return_low (returning.HasLink count) = lit≤ tt
return_low (returning.HasLive count link) = lit≤ tt
return_low (returning.HasLinkCount count link live) = lit≤ tt
return_low (returning.PutsLinkCount link link_count live) = lit≤ tt
return_low (returning.PutsLive live) = lit≤ tt

clear_low : (p : ClearPlace) → clear_budget p ≤ 32
clear_low clearing.Status = lit≤ tt
clear_low clearing.Trip = lit≤ tt
clear_low clearing.Qty = lit≤ tt
clear_low clearing.Closes = lit≤ tt

view_low : (p : ViewPlace) → view_budget p ≤ 32
view_low viewing.Begins = lit≤ tt
view_low viewing.HasStatus = lit≤ tt
view_low (viewing.HasTrip status) = lit≤ tt
view_low (viewing.HasQty status trip) = lit≤ tt
view_low (viewing.HasPrice qty) = lit≤ tt
view_low (viewing.Refunds amount) = lit≤ tt

recall_low : (p : RecallPlace) → recall_budget p ≤ 32
recall_low recalling.Begins = lit≤ tt
recall_low recalling.HasTrip = lit≤ tt
recall_low (recalling.HasQty trip) = lit≤ tt
recall_low (recalling.HasLink trip qty) = lit≤ tt
recall_low (recalling.HasCount trip qty link) = lit≤ tt

budget_low : (c : Course) → course_budget c ≤ 32
budget_low (Opens trip p) = open_low p
budget_low (Books b p) = book_low p
budget_low (Enters b p) = entry_low p
budget_low (Answers b asked) = lit≤ tt
budget_low (Charges b) = lit≤ tt
budget_low (Booked b) = lit≤ tt
budget_low (Returns seats p) = return_low p
budget_low (Clears b closing p) = clear_low p
budget_low (Releases trip qty stage) = lit≤ tt
budget_low (Views view p) = view_low p
budget_low (Recalls recall p) = recall_low p

-- a text that is read as a request is one
pub read_ok : (r : Result Request ℕ) (request : Request) → Ok request ≡ answered r → r ≡ Ok request
read_ok (Ok found) request e = cc
read_ok (Err row) request e = cc

pub begins : (who : ReqId) (body : List ℕ) (stage : ℕ) (request : Request) (p : BookProg) → request_of body ≡ Ok request
    → Some p.course ≡ first_course who request stage → p.lock_set ≡ declared_locks who request →
    Begins (λ (q : BookProg) (last : Option ℕ). course_plan q.course (unwrap_or last 0))
    (λ (q : BookProg). course_budget q.course) (λ (q : BookProg). q.lock_set) (booking_beginning who body stage) (Some p)
begins who body stage request p read first locks =
    subst (λ (r : Result Request ℕ). Begins
    (λ (q : BookProg) (last : Option ℕ). course_plan q.course (unwrap_or last 0))
    (λ (q : BookProg). course_budget q.course) (λ (q : BookProg). q.lock_set) (beginning_in who stage r) (Some p)) (sym read)
    (subst (λ (o : Option Course). Begins (λ (q : BookProg) (last : Option ℕ). course_plan q.course (unwrap_or last 0))
    (λ (q : BookProg). course_budget q.course) (λ (q : BookProg). q.lock_set)
    (begins_at (declared_locks who request) o) (Some p)) first
    ((λ answer. refl), (locks, budget_low p.course)))
