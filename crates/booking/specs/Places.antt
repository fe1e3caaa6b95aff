-- What is left of a segment at each of its places, given what was read before it.
use Rattle.std.specs.Prelude.{ℕ, ◌+◌, ◌-◌, ◌*◌, ◌==◌, Bool, true, false, List, ◌++◌, codes, if◌then◌else◌, Option, Some, None}
use Rattle.aeg_base.specs.declared.names.Tier.TheVariants.{Inv, Pay}
use Rattle.svc_api.specs.Plan.{Plan, Reads, Writes, Ends}
use Rattle.svc_api.specs.declared.action.Ending.TheVariants.{Reply, Call}
use Rattle.server_model.specs.Booking.{cell, capped, narrow, shown, no_stock, declined, reserve_text, release_text, charge_text, refund_text, status_text}
use Rattle.booking.specs.Refusals.{refusal_text, open_refusal, book_refusal, look_refusal, cancel_refusal}
use Rattle.booking.specs.declared.course.NewTrip.{NewTrip}
use Rattle.booking.specs.declared.course.NewBooking.{NewBooking}
use Rattle.booking.specs.declared.course.TripState.{TripState}
use Rattle.booking.specs.declared.course.Return.{Return}
use Rattle.booking.specs.declared.course.AfterReturn.{AfterReturn}
use Rattle.booking.specs.declared.course.AfterReturn.TheVariants.{Release, Clear}
use Rattle.booking.specs.declared.course.Closing.{Closing}
use Rattle.booking.specs.declared.course.Closing.TheVariants.{NoStock, Declined, Cancelled}
use Rattle.booking.specs.declared.course.View.{View}
use Rattle.booking.specs.declared.course.Recall.{Recall}

-- the refusal, if there is one
abbrev pub refused_or : Option ℕ → Plan → Plan
refused_or None rest = rest
refused_or (Some row) rest = Ends (Reply (refusal_text row))

-- OPENING A TRIP

abbrev pub is_opened : NewTrip → Plan
is_opened t = Ends (Reply (codes "opened" ++ shown t.trip))

abbrev pub puts_link : NewTrip → Plan
puts_link t = Writes (cell 2 t.trip) t.link (is_opened t)

abbrev pub puts_price : NewTrip → Plan
puts_price t = Writes (cell 1 t.trip) t.price (puts_link t)

abbrev pub opens_with : NewTrip → ℕ → Plan
opens_with t cap = refused_or (open_refusal t.trip t.link cap) (Writes (cell 0 t.trip) t.cap (puts_price t))

abbrev pub opens : NewTrip → Plan
opens t = Reads (cell 0 t.trip) (opens_with t)

-- BOOKING SEATS

abbrev pub reserves : NewBooking → Plan
reserves b = Ends (Call Inv 1 (reserve_text b.trip b.qty))

abbrev pub puts_qty : NewBooking → Plan
puts_qty b = Writes (cell 7 b.booking) b.qty (reserves b)

abbrev pub puts_trip : NewBooking → Plan
puts_trip b = Writes (cell 6 b.booking) b.trip (puts_qty b)

abbrev pub puts_status : NewBooking → Plan
puts_status b = Writes (cell 5 b.booking) 1 (puts_trip b)

abbrev pub puts_live : NewBooking → ℕ → Plan
puts_live b live = Writes (cell 4 b.client) (capped (live + 1)) (puts_status b)

abbrev pub puts_link_count : NewBooking → TripState → ℕ → Plan
puts_link_count b t link_count = Writes (cell 3 (narrow t.link)) (capped (link_count + b.qty)) (puts_live b t.live)

abbrev pub after_count : NewBooking → TripState → ℕ → Plan
after_count b t link_count = if t.link == 0 then puts_live b t.live else puts_link_count b t link_count

abbrev pub books_with : NewBooking → TripState → ℕ → ℕ → Plan
books_with b t link_cap link_count =
    refused_or (book_refusal b.qty t.cap t.count t.link t.live link_cap link_count)
    (Writes (cell 3 b.trip) (capped (t.count + b.qty)) (after_count b t link_count))

abbrev pub has_link_cap : NewBooking → TripState → ℕ → Plan
has_link_cap b t link_cap = Reads (cell 3 (narrow t.link)) (books_with b t link_cap)

abbrev pub has_state : NewBooking → TripState → Plan
has_state b t = if t.link == 0 then books_with b t 0 0 else Reads (cell 0 (narrow t.link)) (has_link_cap b t)

abbrev pub has_live : NewBooking → ℕ → ℕ → ℕ → ℕ → Plan
has_live b cap count link live = has_state b (record { cap = cap; count = count; link = link; live = live })

abbrev pub has_link : NewBooking → ℕ → ℕ → ℕ → Plan
has_link b cap count link = Reads (cell 4 b.client) (has_live b cap count link)

abbrev pub has_count : NewBooking → ℕ → ℕ → Plan
has_count b cap count = Reads (cell 2 b.trip) (has_link b cap count)

abbrev pub has_cap : NewBooking → ℕ → Plan
has_cap b cap = Reads (cell 3 b.trip) (has_count b cap)

abbrev pub books : NewBooking → Plan
books b = Reads (cell 0 b.trip) (has_cap b)

-- CLEARING A BOOKING

abbrev pub closing_text : ℕ → Closing → List ℕ
closing_text booking NoStock = no_stock
closing_text booking Declined = declined
closing_text booking Cancelled = codes "cancelled" ++ shown booking

abbrev pub closes : ℕ → Closing → Plan
closes booking closing = Ends (Reply (closing_text booking closing))

abbrev pub clears_qty : ℕ → Closing → Plan
clears_qty booking closing = Writes (cell 7 booking) 0 (closes booking closing)

abbrev pub clears_trip : ℕ → Closing → Plan
clears_trip booking closing = Writes (cell 6 booking) 0 (clears_qty booking closing)

abbrev pub clears : ℕ → Closing → Plan
clears booking closing = Writes (cell 5 booking) 0 (clears_trip booking closing)

-- GIVING SEATS BACK

abbrev pub releases : ℕ → ℕ → ℕ → Plan
releases trip qty stage = Ends (Call Inv stage (release_text trip qty))

abbrev pub is_returned : Return → AfterReturn → Plan
is_returned r Release = releases r.trip r.qty 3
is_returned r (Clear booking closing) = clears booking closing

abbrev pub returns_live : Return → ℕ → Plan
returns_live r live = Writes (cell 4 r.client) (live - 1) (is_returned r r.after)

abbrev pub returns_link_count : Return → ℕ → ℕ → ℕ → Plan
returns_link_count r link live link_count = Writes (cell 3 (narrow link)) (link_count - r.qty) (returns_live r live)

abbrev pub returns_with : Return → ℕ → ℕ → ℕ → ℕ → Plan
returns_with r count link live link_count =
    Writes (cell 3 r.trip) (count - r.qty) (if link == 0 then returns_live r live else returns_link_count r link live link_count)

abbrev pub return_has_live : Return → ℕ → ℕ → ℕ → Plan
return_has_live r count link live = if link == 0 then returns_with r count link live 0 else Reads (cell 3 (narrow link)) (returns_with r count link live)

abbrev pub return_has_link : Return → ℕ → ℕ → Plan
return_has_link r count link = Reads (cell 4 r.client) (return_has_live r count link)

abbrev pub return_has_count : Return → ℕ → Plan
return_has_count r count = Reads (cell 2 r.trip) (return_has_link r count)

abbrev pub returns : Return → Plan
returns r = Reads (cell 3 r.trip) (return_has_count r)

-- GOING ON WITH A BOOKING

abbrev pub charges_with : NewBooking → ℕ → Plan
charges_with b price = Ends (Call Pay 2 (charge_text b.client (capped (price * b.qty))))

abbrev pub reply_booked : ℕ → Plan
reply_booked booking = Ends (Reply (codes "booked" ++ shown booking))

abbrev pub return_of : NewBooking → AfterReturn → Return
return_of b after = record { client = b.client; trip = b.trip; qty = b.qty; after = after }

-- the seats were granted with the code 0, or not
abbrev pub is_reserved : NewBooking → ℕ → Plan
is_reserved b code = if code == 0 then Reads (cell 1 b.trip) (charges_with b) else returns (return_of b (Clear b.booking NoStock))

abbrev pub is_charged : NewBooking → ℕ → Plan
is_charged b code = if code == 0 then Writes (cell 5 b.booking) 2 (reply_booked b.booking) else returns (return_of b Release)

-- LOOKING AT A BOOKING, AND CANCELLING IT

abbrev pub refunds : ℕ → ℕ → Plan
refunds client amount = Ends (Call Pay 1 (refund_text client amount))

abbrev pub cancels_with : View → ℕ → ℕ → Plan
cancels_with v qty price = Writes (cell 5 v.booking) 3 (refunds v.client (capped (price * qty)))

abbrev pub viewed : Bool → View → ℕ → ℕ → ℕ → Plan
viewed false v status trip qty = refused_or (look_refusal v.client v.booking status) (Ends (Reply (status_text v.booking status trip qty)))
viewed true v status trip qty = refused_or (cancel_refusal v.client v.booking status) (Reads (cell 1 (narrow trip)) (cancels_with v qty))

abbrev pub view_has_qty : View → ℕ → ℕ → ℕ → Plan
view_has_qty v status trip qty = viewed v.cancels v status trip qty

abbrev pub view_has_trip : View → ℕ → ℕ → Plan
view_has_trip v status trip = Reads (cell 7 v.booking) (view_has_qty v status trip)

abbrev pub view_has_status : View → ℕ → Plan
view_has_status v status = Reads (cell 6 v.booking) (view_has_trip v status)

abbrev pub views : View → Plan
views v = Reads (cell 5 v.booking) (view_has_status v)

-- GOING ON WITH A CANCELLATION

abbrev pub recall_return : Recall → ℕ → ℕ → Return
recall_return c trip qty = record { client = c.client; trip = narrow trip; qty = qty; after = Clear c.booking Cancelled }

abbrev pub recall_has_count : Recall → ℕ → ℕ → ℕ → ℕ → Plan
recall_has_count c trip qty link count = return_has_link (recall_return c trip qty) count link

abbrev pub recall_has_link : Recall → ℕ → ℕ → ℕ → Plan
recall_has_link c trip qty link = Reads (cell 3 (narrow trip)) (recall_has_count c trip qty link)

abbrev pub recalled : Bool → Recall → ℕ → ℕ → Plan
recalled false c trip qty = releases (narrow trip) (narrow qty) 2
recalled true c trip qty = Reads (cell 2 (narrow trip)) (recall_has_link c trip qty)

abbrev pub recall_has_qty : Recall → ℕ → ℕ → Plan
recall_has_qty c trip qty = recalled c.released c trip qty

abbrev pub recall_has_trip : Recall → ℕ → Plan
recall_has_trip c trip = Reads (cell 7 c.booking) (recall_has_qty c trip)

abbrev pub recalls : Recall → Plan
recalls c = Reads (cell 6 c.booking) (recall_has_trip c)
