-- What a program does from where it stands, how many actions it has left at most, and the stage after its call.
use Rattle.std.specs.Prelude.{ℕ, ◌<◌, ◌⊎◌, unwrap_or}
use Rattle.svc_api.specs.Plan.{Plan, Follows, IsEnd, NamesKey}
use Rattle.booking.specs.Places.{opens, opens_with, puts_price, puts_link, is_opened, books, has_cap, has_count}
use Rattle.booking.specs.Places.{has_link, has_live, has_link_cap, books_with, puts_link_count, puts_live, puts_status}
use Rattle.booking.specs.Places.{puts_trip, puts_qty, reserves, clears, clears_trip, clears_qty, closes, releases}
use Rattle.booking.specs.Places.{return_has_count, return_has_link, return_has_live, returns_with, returns_link_count}
use Rattle.booking.specs.Places.{returns_live, charges_with, reply_booked, is_reserved, is_charged, refunds}
use Rattle.booking.specs.Places.{cancels_with, view_has_qty, view_has_trip, view_has_status, views, recalls}
use Rattle.booking.specs.Places.{recall_has_trip, recall_has_qty, recall_has_link, recall_has_count}
use Rattle.booking.specs.declared.course.NewTrip.{NewTrip}
use Rattle.booking.specs.declared.course.NewBooking.{NewBooking}
use Rattle.booking.specs.declared.course.Return.{Return}
use Rattle.booking.specs.declared.course.Closing.{Closing}
use Rattle.booking.specs.declared.course.View.{View}
use Rattle.booking.specs.declared.course.Recall.{Recall}
use Rattle.booking.specs.declared.course.OpenPlace.{OpenPlace}
use Rattle.booking.specs.declared.course.OpenPlace.TheVariants as opening
use Rattle.booking.specs.declared.course.BookPlace.{BookPlace}
use Rattle.booking.specs.declared.course.BookPlace.TheVariants as booking
use Rattle.booking.specs.declared.course.EntryPlace.{EntryPlace}
use Rattle.booking.specs.declared.course.EntryPlace.TheVariants as entering
use Rattle.booking.specs.declared.course.Asked.{Asked}
use Rattle.booking.specs.declared.course.Asked.TheVariants.{Reserve, Charge}
use Rattle.booking.specs.declared.course.ReturnPlace.{ReturnPlace}
use Rattle.booking.specs.declared.course.ReturnPlace.TheVariants as returning
use Rattle.booking.specs.declared.course.ClearPlace.{ClearPlace}
use Rattle.booking.specs.declared.course.ClearPlace.TheVariants as clearing
use Rattle.booking.specs.declared.course.ViewPlace.{ViewPlace}
use Rattle.booking.specs.declared.course.ViewPlace.TheVariants as viewing
use Rattle.booking.specs.declared.course.RecallPlace.{RecallPlace}
use Rattle.booking.specs.declared.course.RecallPlace.TheVariants as recalling
use Rattle.booking.specs.declared.course.Course.{Course}
use Rattle.booking.specs.declared.course.Course.TheVariants.{Opens, Books, Enters, Answers, Charges, Booked, Returns, Clears, Releases, Views, Recalls}
use Rattle.booking.specs.declared.turn.Turn.{Turn}

-- WHAT IS LEFT, GIVEN WHAT THE LAST READ OR THE CALL'S ANSWER TOLD

abbrev pub open_plan : NewTrip → OpenPlace → ℕ → Plan
open_plan t opening.Begins told = opens t
open_plan t opening.HasCap told = opens_with t told
open_plan t opening.PutsPrice told = puts_price t
open_plan t opening.PutsLink told = puts_link t
open_plan t opening.Opened told = is_opened t

abbrev pub book_plan : NewBooking → BookPlace → ℕ → Plan
book_plan b booking.Begins told = books b
book_plan b booking.HasCap told = has_cap b told
book_plan b (booking.HasCount cap) told = has_count b cap told
book_plan b (booking.HasLink cap count) told = has_link b cap count told
book_plan b (booking.HasLive cap count link) told = has_live b cap count link told
book_plan b (booking.HasLinkCap state) told = has_link_cap b state told
book_plan b (booking.HasLinkCount state link_cap) told = books_with b state link_cap told

abbrev pub entry_plan : NewBooking → EntryPlace → Plan
entry_plan b (entering.PutsLinkCount state link_count) = puts_link_count b state link_count
entry_plan b (entering.PutsLive live) = puts_live b live
entry_plan b entering.PutsStatus = puts_status b
entry_plan b entering.PutsTrip = puts_trip b
entry_plan b entering.PutsQty = puts_qty b
entry_plan b entering.Reserves = reserves b

abbrev pub answer_plan : NewBooking → Asked → ℕ → Plan
answer_plan b Reserve told = is_reserved b told
answer_plan b Charge told = is_charged b told

abbrev pub return_plan : Return → ReturnPlace → ℕ → Plan
return_plan r returning.HasCount told = return_has_count r told
return_plan r (returning.HasLink count) told = return_has_link r count told
return_plan r (returning.HasLive count link) told = return_has_live r count link told
return_plan r (returning.HasLinkCount count link live) told = returns_with r count link live told
return_plan r (returning.PutsLinkCount link link_count live) told = returns_link_count r link live link_count
return_plan r (returning.PutsLive live) told = returns_live r live

abbrev pub clear_plan : ℕ → Closing → ClearPlace → Plan
clear_plan booking closing clearing.Status = clears booking closing
clear_plan booking closing clearing.Trip = clears_trip booking closing
clear_plan booking closing clearing.Qty = clears_qty booking closing
clear_plan booking closing clearing.Closes = closes booking closing

abbrev pub view_plan : View → ViewPlace → ℕ → Plan
view_plan v viewing.Begins told = views v
view_plan v viewing.HasStatus told = view_has_status v told
view_plan v (viewing.HasTrip status) told = view_has_trip v status told
view_plan v (viewing.HasQty status trip) told = view_has_qty v status trip told
view_plan v (viewing.HasPrice qty) told = cancels_with v qty told
view_plan v (viewing.Refunds amount) told = refunds v.client amount

abbrev pub recall_plan : Recall → RecallPlace → ℕ → Plan
recall_plan c recalling.Begins told = recalls c
recall_plan c recalling.HasTrip told = recall_has_trip c told
recall_plan c (recalling.HasQty trip) told = recall_has_qty c trip told
recall_plan c (recalling.HasLink trip qty) told = recall_has_link c trip qty told
recall_plan c (recalling.HasCount trip qty link) told = recall_has_count c trip qty link told

abbrev pub course_plan : Course → ℕ → Plan
course_plan (Opens trip place) told = open_plan trip place told
course_plan (Books booking place) told = book_plan booking place told
course_plan (Enters booking place) told = entry_plan booking place
course_plan (Answers booking asked) told = answer_plan booking asked told
course_plan (Charges booking) told = charges_with booking told
course_plan (Booked booking) told = reply_booked booking
course_plan (Returns seats place) told = return_plan seats place told
course_plan (Clears booking closing place) told = clear_plan booking closing place
course_plan (Releases trip qty stage) told = releases trip qty stage
course_plan (Views view place) told = view_plan view place told
course_plan (Recalls recall place) told = recall_plan recall place told

-- HOW MANY ACTIONS ARE LEFT BEFORE THE END, AT MOST

abbrev pub open_budget : OpenPlace → ℕ
open_budget opening.Begins = 4
open_budget opening.HasCap = 3
open_budget opening.PutsPrice = 2
open_budget opening.PutsLink = 1
open_budget opening.Opened = 0

abbrev pub book_budget : BookPlace → ℕ
book_budget booking.Begins = 12
book_budget booking.HasCap = 11
book_budget (booking.HasCount cap) = 10
book_budget (booking.HasLink cap count) = 9
book_budget (booking.HasLive cap count link) = 8
book_budget (booking.HasLinkCap state) = 7
book_budget (booking.HasLinkCount state link_cap) = 6

abbrev pub entry_budget : EntryPlace → ℕ
entry_budget (entering.PutsLinkCount state link_count) = 5
entry_budget (entering.PutsLive live) = 4
entry_budget entering.PutsStatus = 3
entry_budget entering.PutsTrip = 2
entry_budget entering.PutsQty = 1
entry_budget entering.Reserves = 0

abbrev pub return_budget : ReturnPlace → ℕ
return_budget returning.HasCount = 9
return_budget (returning.HasLink count) = 8
return_budget (returning.HasLive count link) = 7
return_budget (returning.HasLinkCount count link live) = 6
return_budget (returning.PutsLinkCount link link_count live) = 5
return_budget (returning.PutsLive live) = 4

abbrev pub clear_budget : ClearPlace → ℕ
clear_budget clearing.Status = 3
clear_budget clearing.Trip = 2
clear_budget clearing.Qty = 1
clear_budget clearing.Closes = 0

abbrev pub view_budget : ViewPlace → ℕ
view_budget viewing.Begins = 5
view_budget viewing.HasStatus = 4
view_budget (viewing.HasTrip status) = 3
view_budget (viewing.HasQty status trip) = 2
view_budget (viewing.HasPrice qty) = 1
view_budget (viewing.Refunds amount) = 0

abbrev pub recall_budget : RecallPlace → ℕ
recall_budget recalling.Begins = 12
recall_budget recalling.HasTrip = 11
recall_budget (recalling.HasQty trip) = 10
recall_budget (recalling.HasLink trip qty) = 9
recall_budget (recalling.HasCount trip qty link) = 8

abbrev pub course_budget : Course → ℕ
course_budget (Opens trip place) = open_budget place
course_budget (Books booking place) = book_budget place
course_budget (Enters booking place) = entry_budget place
course_budget (Answers booking asked) = 10
course_budget (Charges booking) = 0
course_budget (Booked booking) = 0
course_budget (Returns seats place) = return_budget place
course_budget (Clears booking closing place) = clear_budget place
course_budget (Releases trip qty stage) = 0
course_budget (Views view place) = view_budget place
course_budget (Recalls recall place) = recall_budget place

-- THE STAGE AT WHICH THE REQUEST GOES ON

abbrev pub entry_stage : EntryPlace → ℕ
entry_stage entering.Reserves = 1
entry_stage _ = 0

abbrev pub view_stage : ViewPlace → ℕ
view_stage (viewing.Refunds amount) = 1
view_stage _ = 0

abbrev pub course_stage : Course → ℕ
course_stage (Enters booking place) = entry_stage place
course_stage (Books booking place) = 0
course_stage (Charges booking) = 2
course_stage (Releases trip qty stage) = stage
course_stage (Views view place) = view_stage place
course_stage (Opens trip place) = 0
course_stage (Answers booking asked) = 0
course_stage (Booked booking) = 0
course_stage (Returns seats place) = 0
course_stage (Clears booking closing place) = 0
course_stage (Recalls recall place) = 0

-- ONE ACTION

-- the action is the plan's first, what is left follows it, an action that is no end leaves fewer, and its key is a store's
abbrev pub IsTurn : Plan → ℕ → Turn → Type 0
IsTurn plan budget turn =
    Follows plan turn.action (λ last. course_plan turn.left (unwrap_or last 0)) (course_stage turn.left)
    × ((IsEnd turn.action ⊎ (course_budget turn.left < budget)) × NamesKey turn.action)
