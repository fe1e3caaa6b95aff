-- The actions of each segment come to its row of the table.
use Rattle.std.specs.Prelude.{◌≡◌, ℕ, ◌+◌, ◌-◌, ◌*◌, ◌==◌, nat_lt, nat_le, not, ◌&&◌, Bool, true, false, List, [], ◌∷◌}
use Rattle.std.specs.Prelude.{◌++◌, codes, if◌then◌else◌, Some, None, unwrap_or, refl}
use mathlib.Core.Path.{ap}
use Rattle.std.specs.declared.result.Result.{Result}
use Rattle.std.specs.declared.result.Result.TheVariants.{Ok, Err}
use Rattle.aeg_base.specs.Store.{Store, value_at}
use Rattle.aeg_base.specs.declared.names.Key.{Key}
use Rattle.aeg_base.specs.declared.names.ReqId.{ReqId}
use Rattle.aeg_base.specs.declared.names.Tier.TheVariants.{Inv, Pay}
use Rattle.svc_api.specs.Plan.{Plan, Reads, Writes, Ends}
use Rattle.svc_api.specs.Segment.{Segment, segment_of, Folds}
use Rattle.svc_api.specs.declared.action.Ending.{Ending}
use Rattle.svc_api.specs.declared.action.Ending.TheVariants.{Reply, Call}
use Rattle.rule_table.specs.Rows.{first_row}
use Rattle.server_model.specs.Booking as table
use Rattle.server_model.specs.Booking.{cell, capped, narrow, where_linked, does, answers, booking_of, owner_of}
use Rattle.server_model.specs.Requests.{request_of}
use Rattle.server_model.specs.declared.request.Request.{Request}
use Rattle.server_model.specs.declared.request.Request.TheVariants.{Open, Book, Cancel, Look}
use Rattle.booking.specs.Places as place
use Rattle.booking.specs.Places.{refused_or}
use Rattle.booking.specs.Beginning.{booking_beginning, beginning_in, begins_at, new_booking, view_course, recall_course}
use Rattle.booking.specs.declared.course.NewTrip.{NewTrip}
use Rattle.booking.specs.declared.course.NewBooking.{NewBooking}
use Rattle.booking.specs.declared.course.TripState.{TripState}
use Rattle.booking.specs.declared.course.Return.{Return}
use Rattle.booking.specs.declared.course.AfterReturn.{AfterReturn}
use Rattle.booking.specs.declared.course.AfterReturn.TheVariants.{Release, Clear}
use Rattle.booking.specs.declared.course.Closing.TheVariants.{NoStock, Declined}
use Rattle.booking.specs.declared.course.View.{View}
use Rattle.booking.specs.declared.course.Asked.TheVariants.{Reserve, Charge}
use Rattle.booking.specs.declared.course.OpenPlace.TheVariants as opening
use Rattle.booking.specs.declared.course.BookPlace.TheVariants as booking
use Rattle.booking.specs.declared.course.ClearPlace.TheVariants as clearing
use Rattle.booking.specs.declared.course.Course.TheVariants.{Opens, Books, Answers, Clears}

-- a segment that reads some keys first
abbrev behind : List Key → Segment → Segment
behind keys rest = record { store = rest.store; ending = rest.ending; keys = keys ++ rest.keys }

-- OPEN

opened_at : (t : NewTrip) (s : Store) (is_open is_linked : Bool) →
    segment_of (Reads (cell 0 t.trip)
    (λ _. refused_or (first_row (1 ∷ 2 ∷ []) (is_open ∷ is_linked ∷ [])) (Writes (cell 0 t.trip) t.cap (place.puts_price t)))) s
    ≡ (if is_open then answers s (cell 0 t.trip ∷ []) table.already_open
    else if is_linked then answers s (cell 0 t.trip ∷ []) table.bad_trip
    else does s (cell 0 t.trip ∷ []) ((cell 0 t.trip, t.cap) ∷ (cell 1 t.trip, t.price) ∷ (cell 2 t.trip, t.link) ∷ [])
    (Reply (codes "opened" ++ table.shown t.trip)))
opened_at t s true is_linked = refl
opened_at t s false true = refl
opened_at t s false false = refl

open_folds : (t : NewTrip) (s : Store) → segment_of (place.opens t) s ≡ table.open_row t.trip t.cap t.price t.link s
open_folds t s = opened_at t s (not (value_at s (cell 0 t.trip) == 0)) (t.link == t.trip)

-- BOOK

abbrev decided : NewBooking → TripState → ℕ → Bool → Bool → Bool → Bool → Bool → Plan
decided b t link_count unlinked no_trip is_full link_full too_many =
    refused_or (first_row (3 ∷ 4 ∷ 5 ∷ 6 ∷ []) (no_trip ∷ is_full ∷ link_full ∷ too_many ∷ []))
    (Writes (cell 3 b.trip) (capped (t.count + b.qty)) (if unlinked then place.puts_live b t.live else place.puts_link_count b t link_count))

abbrev book_keys : NewBooking → TripState → Bool → List Key
book_keys b t unlinked =
    cell 0 b.trip ∷ cell 3 b.trip ∷ cell 2 b.trip ∷ cell 4 b.client ∷ (if unlinked then [] else cell 0 (narrow t.link) ∷ cell 3 (narrow t.link) ∷ [])

decided_at : (keys : List Key) (b : NewBooking) (t : TripState) (s : Store) (link_count : ℕ) (unlinked no_trip is_full link_full too_many : Bool) →
    behind keys (segment_of (decided b t link_count unlinked no_trip is_full link_full too_many) s)
    ≡ (if no_trip then answers s keys table.no_trip
    else if is_full then answers s keys table.is_full
    else if link_full then answers s keys table.link_full
    else if too_many then answers s keys table.too_many
    else does s keys
    ((cell 3 b.trip, capped (t.count + b.qty))
    ∷ (if unlinked then [] else (cell 3 (narrow t.link), capped (link_count + b.qty)) ∷ [])
    ++ ((cell 4 b.client, capped (t.live + 1)) ∷ (cell 5 b.booking, 1) ∷ (cell 6 b.booking, b.trip)
    ∷ (cell 7 b.booking, b.qty) ∷ []))
    (Call Inv 1 (table.reserve_text b.trip b.qty)))
decided_at keys b t s link_count unlinked true is_full link_full too_many = refl
decided_at keys b t s link_count unlinked false true link_full too_many = refl
decided_at keys b t s link_count unlinked false false true too_many = refl
decided_at keys b t s link_count unlinked false false false true = refl
decided_at keys b t s link_count true false false false false = refl
decided_at keys b t s link_count false false false false false = refl

book_at : (b : NewBooking) (t : TripState) (s : Store) (unlinked no_trip is_full too_many : Bool) →
    behind (cell 0 b.trip ∷ cell 3 b.trip ∷ cell 2 b.trip ∷ cell 4 b.client ∷ []) (segment_of (
    if unlinked then decided b t 0 unlinked no_trip is_full (not unlinked && nat_lt 0 (capped (0 + b.qty))) too_many
    else Reads (cell 0 (narrow t.link))
    (λ link_cap. Reads (cell 3 (narrow t.link))
    (λ link_count. decided b t link_count unlinked no_trip is_full
    (not unlinked && nat_lt link_cap (capped (link_count + b.qty))) too_many))) s)
    ≡ (if no_trip then answers s (book_keys b t unlinked) table.no_trip
    else if is_full then answers s (book_keys b t unlinked) table.is_full
    else if not unlinked
    && nat_lt (value_at s (cell 0 (narrow t.link)))
    (capped (value_at s (cell 3 (narrow t.link)) + b.qty)) then answers s (book_keys b t unlinked) table.link_full
    else if too_many then answers s (book_keys b t unlinked) table.too_many
    else does s (book_keys b t unlinked)
    ((cell 3 b.trip, capped (t.count + b.qty))
    ∷ (if unlinked then [] else (cell 3 (narrow t.link), capped (value_at s (cell 3 (narrow t.link)) + b.qty)) ∷ [])
    ++ ((cell 4 b.client, capped (t.live + 1)) ∷ (cell 5 b.booking, 1) ∷ (cell 6 b.booking, b.trip)
    ∷ (cell 7 b.booking, b.qty) ∷ []))
    (Call Inv 1 (table.reserve_text b.trip b.qty)))
book_at b t s true no_trip is_full too_many = decided_at (book_keys b t true) b t s 0 true no_trip is_full false too_many
book_at b t s false no_trip is_full too_many =
    decided_at (book_keys b t false) b t s (value_at s (cell 3 (narrow t.link))) false no_trip is_full
    (nat_lt (value_at s (cell 0 (narrow t.link))) (capped (value_at s (cell 3 (narrow t.link)) + b.qty))) too_many

book_folds : (who : ReqId) (trip qty : ℕ) (s : Store) → segment_of (place.books (new_booking who trip qty)) s ≡ table.book_row who trip qty s
book_folds who trip qty s =
    let cap : ℕ = value_at s (cell 0 trip) in
    let count : ℕ = value_at s (cell 3 trip) in
    let link : ℕ = value_at s (cell 2 trip) in
    let live : ℕ = value_at s (cell 4 who.client) in
    book_at (new_booking who trip qty) (record { cap = cap; count = count; link = link; live = live }) s
    (link == 0) (cap == 0) (nat_lt cap (capped (count + qty))) (nat_le 4 live)

-- GIVING BACK

abbrev more_of : AfterReturn → List (Key × ℕ)
more_of Release = []
more_of (Clear booking closing) = table.cleared_writes booking

abbrev end_of : Return → AfterReturn → Ending
end_of r Release = Call Inv 3 (table.release_text r.trip r.qty)
end_of r (Clear booking closing) = Reply (place.closing_text booking closing)

abbrev returned : Return → ℕ → ℕ → ℕ → ℕ → Bool → AfterReturn → Plan
returned r count link live link_count unlinked after =
    let last = Writes (cell 4 r.client) (live - 1) (place.is_returned r after) in
    Writes (cell 3 r.trip) (count - r.qty) (if unlinked then last else Writes (cell 3 (narrow link)) (link_count - r.qty) last)

return_at : (r : Return) (s : Store) (count link live : ℕ) (unlinked : Bool) (after : AfterReturn) →
    segment_of (Reads (cell 4 r.client)
    (λ _. if unlinked then returned r count link live 0 unlinked after else Reads (cell 3 (narrow link))
    (λ link_count. returned r count link live link_count unlinked after))) s
    ≡ does s (cell 4 r.client ∷ (if unlinked then [] else cell 3 (narrow link) ∷ []))
    ((cell 3 r.trip, count - r.qty)
    ∷ (if unlinked then [] else (cell 3 (narrow link), value_at s (cell 3 (narrow link)) - r.qty) ∷ [])
    ++ ((cell 4 r.client, live - 1) ∷ []) ++ more_of after)
    (end_of r after)
return_at r s count link live true Release = refl
return_at r s count link live true (Clear booking closing) = refl
return_at r s count link live false Release = refl
return_at r s count link live false (Clear booking closing) = refl

abbrev returned_row : Return → ℕ → ℕ → Store → Segment
returned_row r count link s =
    does s (cell 4 r.client ∷ where_linked link (cell 3 (narrow link) ∷ []))
    (table.returned_writes r.client r.trip r.qty link count (value_at s (cell 3 (narrow link))) (value_at s (cell 4 r.client)) ++ more_of r.after)
    (end_of r r.after)

return_folds : (r : Return) (count link : ℕ) (s : Store) → segment_of (place.return_has_link r count link) s ≡ returned_row r count link s
return_folds r count link s = return_at r s count link (value_at s (cell 4 r.client)) (link == 0) r.after

no_stock_folds : (who : ReqId) (trip qty : ℕ) (s : Store)
    → segment_of (place.returns (place.return_of (new_booking who trip qty) (Clear (booking_of who) NoStock))) s
    ≡ table.book_no_stock who trip qty s
no_stock_folds who trip qty s =
    ap (behind (cell 3 trip ∷ cell 2 trip ∷ []))
    (return_folds (place.return_of (new_booking who trip qty) (Clear (booking_of who) NoStock)) (value_at s (cell 3 trip)) (value_at s (cell 2 trip)) s)

releases_folds : (who : ReqId) (trip qty : ℕ) (s : Store)
    → segment_of (place.returns (place.return_of (new_booking who trip qty) Release)) s ≡ table.book_releases who trip qty s
releases_folds who trip qty s =
    ap (behind (cell 3 trip ∷ cell 2 trip ∷ []))
    (return_folds (place.return_of (new_booking who trip qty) Release) (value_at s (cell 3 trip)) (value_at s (cell 2 trip)) s)

-- GOING ON WITH A BOOKING

-- a segment is chosen as its plan is
either : (granted : Bool) (p q : Plan) (f g : Store → Segment) (s : Store) → segment_of p s ≡ f s → segment_of q s ≡ g s
    → segment_of (if granted then p else q) s ≡ (if granted then f else g) s
either true p q f g s e h = e
either false p q f g s e h = h

-- CANCEL AND LOOK

cancel_at : (v : View) (s : Store) (trip qty : ℕ) (is_none is_other not_booked : Bool) →
    segment_of (Reads (cell 5 v.booking) (λ _. Reads (cell 6 v.booking) (λ _. Reads (cell 7 v.booking) (λ _.
    refused_or (first_row (9 ∷ 10 ∷ 11 ∷ []) (is_none ∷ is_other ∷ not_booked ∷ []))
    (Reads (cell 1 trip) (λ price. Writes (cell 5 v.booking) 3 (place.refunds v.client (capped (price * qty))))))))) s
    ≡ (let reads = cell 5 v.booking ∷ cell 6 v.booking ∷ cell 7 v.booking ∷ [] in
    if is_none then answers s reads table.no_booking
    else if is_other then answers s reads table.not_yours
    else if not_booked then answers s reads table.not_booked
    else does s (reads ++ cell 1 trip ∷ []) ((cell 5 v.booking, 3) ∷ []) (Call Pay 1 (table.refund_text v.client (capped (value_at s (cell 1 trip) * qty)))))
cancel_at v s trip qty true is_other not_booked = refl
cancel_at v s trip qty false true not_booked = refl
cancel_at v s trip qty false false true = refl
cancel_at v s trip qty false false false = refl

cancel_folds : (who : ReqId) (booking : ℕ) (s : Store)
    → segment_of (place.views (record { client = who.client; booking = booking; cancels = true })) s
    ≡ table.cancel_row who booking s
cancel_folds who booking s =
    let status : ℕ = value_at s (cell 5 booking) in
    cancel_at (record { client = who.client; booking = booking; cancels = true }) s (narrow (value_at s (cell 6 booking))) (value_at s (cell 7 booking))
    (status == 0) (not (owner_of booking == who.client)) (not (status == 2))

look_at : (v : View) (s : Store) (text : List ℕ) (is_none is_other : Bool) →
    segment_of (Reads (cell 5 v.booking) (λ _. Reads (cell 6 v.booking) (λ _. Reads (cell 7 v.booking) (λ _.
    refused_or (first_row (9 ∷ 10 ∷ []) (is_none ∷ is_other ∷ [])) (Ends (Reply text)))))) s
    ≡ (let reads = cell 5 v.booking ∷ cell 6 v.booking ∷ cell 7 v.booking ∷ [] in
    if is_none then answers s reads table.no_booking
    else if is_other then answers s reads table.not_yours
    else answers s reads text)
look_at v s text true is_other = refl
look_at v s text false true = refl
look_at v s text false false = refl

look_folds : (who : ReqId) (booking : ℕ) (s : Store)
    → segment_of (place.views (record { client = who.client; booking = booking; cancels = false })) s ≡ table.look_row who booking s
look_folds who booking s =
    let status = value_at s (cell 5 booking) in
    look_at (record { client = who.client; booking = booking; cancels = false }) s
    (table.status_text booking status (value_at s (cell 6 booking)) (value_at s (cell 7 booking)))
    (status == 0) (not (owner_of booking == who.client))

cancelled_folds : (who : ReqId) (booking : ℕ) (s : Store)
    → segment_of (place.recalls (record { client = who.client; booking = booking; released = true })) s
    ≡ table.cancel_cancelled who booking s
cancelled_folds who booking s =
    let trip = narrow (value_at s (cell 6 booking)) in
    ap (behind (cell 6 booking ∷ cell 7 booking ∷ cell 2 trip ∷ cell 3 trip ∷ []))
    (return_folds (place.recall_return (record { client = who.client; booking = booking; released = true })
    (value_at s (cell 6 booking)) (value_at s (cell 7 booking))) (value_at s (cell 3 trip)) (value_at s (cell 2 trip)) s)

-- ALL STAGES

book_stages_fold : (who : ReqId) (trip qty : ℕ) (locks : List Bool) (first second third fourth : Bool) →
    Folds (begins_at locks
    (if first then Some (Books (new_booking who trip qty) booking.Begins)
    else if second then Some (Answers (new_booking who trip qty) Reserve)
    else if third then Some (Answers (new_booking who trip qty) Charge)
    else if fourth then Some (Clears (booking_of who) Declined clearing.Status)
    else None))
    (if first then Some (λ answer. table.book_row who trip qty)
    else if second then Some (λ answer. table.granted_or answer (table.book_charges who trip qty) (table.book_no_stock who trip qty))
    else if third then Some (λ answer. table.granted_or answer (table.book_booked who) (table.book_releases who trip qty))
    else if fourth then Some (λ answer. table.book_declined who)
    else None)
book_stages_fold who trip qty locks true second third fourth = λ answer s. book_folds who trip qty s
book_stages_fold who trip qty locks false true third fourth = λ answer s.
    either (unwrap_or answer 0 == 0) (Reads (cell 1 trip) (place.charges_with (new_booking who trip qty)))
    (place.returns (place.return_of (new_booking who trip qty) (Clear (booking_of who) NoStock)))
    (table.book_charges who trip qty) (table.book_no_stock who trip qty) s refl (no_stock_folds who trip qty s)
book_stages_fold who trip qty locks false false true fourth = λ answer s.
    either (unwrap_or answer 0 == 0) (Writes (cell 5 (booking_of who)) 2 (place.reply_booked (booking_of who)))
    (place.returns (place.return_of (new_booking who trip qty) Release))
    (table.book_booked who) (table.book_releases who trip qty) s refl (releases_folds who trip qty s)
book_stages_fold who trip qty locks false false false true = λ answer s. refl
book_stages_fold who trip qty locks false false false false = tt

cancel_stages_fold : (who : ReqId) (booking : ℕ) (locks : List Bool) (first second third : Bool) →
    Folds (begins_at locks
    (if first then Some (view_course who.client booking true)
    else if second then Some (recall_course who.client booking false)
    else if third then Some (recall_course who.client booking true)
    else None))
    (if first then Some (λ answer. table.cancel_row who booking)
    else if second then Some (λ answer. table.cancel_releases booking)
    else if third then Some (λ answer. table.cancel_cancelled who booking)
    else None)
cancel_stages_fold who booking locks true second third = λ answer s. cancel_folds who booking s
cancel_stages_fold who booking locks false true third = λ answer s. refl
cancel_stages_fold who booking locks false false true = λ answer s. cancelled_folds who booking s
cancel_stages_fold who booking locks false false false = tt

open_stages_fold : (t : NewTrip) (locks : List Bool) (first : Bool)
    → Folds (begins_at locks (if first then Some (Opens t opening.Begins) else None))
    (if first then Some (λ answer. table.open_row t.trip t.cap t.price t.link) else None)
open_stages_fold t locks true = λ answer s. open_folds t s
open_stages_fold t locks false = tt

look_stages_fold : (who : ReqId) (booking : ℕ) (locks : List Bool) (first : Bool)
    → Folds (begins_at locks (if first then Some (view_course who.client booking false) else None))
    (if first then Some (λ answer. table.look_row who booking) else None)
look_stages_fold who booking locks true = λ answer s. look_folds who booking s
look_stages_fold who booking locks false = tt

folds_in : (who : ReqId) (stage : ℕ) (read : Result Request ℕ) → Folds (beginning_in who stage read) (table.stages_in who stage read)
folds_in who stage (Err row) = tt
folds_in who stage (Ok (Open trip cap price link)) = open_stages_fold
    (record { trip = trip; cap = cap; price = price; link = link })
    (table.declared_locks who (Open trip cap price link)) (stage == 0)
folds_in who stage (Ok (Book trip qty)) = book_stages_fold who trip qty (table.declared_locks who (Book trip qty))
    (stage == 0) (stage == 1) (stage == 2) (stage == 3)
folds_in who stage (Ok (Cancel booking)) = cancel_stages_fold who booking (table.declared_locks who (Cancel booking)) (stage == 0) (stage == 1) (stage == 2)
folds_in who stage (Ok (Look booking)) = look_stages_fold who booking (table.declared_locks who (Look booking)) (stage == 0)

pub booking_folds : (who : ReqId) (body : List ℕ) (stage : ℕ) → Folds (booking_beginning who body stage) (table.booking_table who body stage)
booking_folds who body stage = folds_in who stage (request_of body)
