-- What the segments of the requests do, as a table over a whole store. A row reads its keys in order, is refused by the
-- first rule that holds, else writes in order, and ends. Every value that it writes is made of what it read.
-- Keys by class: 0 cap, 1 price, 2 link, 3 booked count (of a trip); 4 live bookings (of a client); 5 status, 6 trip,
-- 7 quantity (of a booking). A status is 1 pending, 2 booked, 3 cancelling, and 0 where there is no booking.
use Rattle.std.specs.Prelude.{ℕ, ◌+◌, ◌-◌, ◌*◌, ◌%◌, ◌^◌, ◌==◌, min, nat_lt, nat_le, not, ◌&&◌, Bool, List, [], ◌∷◌}
use Rattle.std.specs.Prelude.{◌++◌, map, codes, if◌then◌else◌, Option, Some, None, unwrap_or}
use Rattle.std.specs.Fmt.{decimal}
use Rattle.std.specs.declared.result.Result.{Result}
use Rattle.std.specs.declared.result.Result.TheVariants.{Ok, Err}
use Rattle.aeg_base.specs.Store.{Store, value_at, written_all}
use Rattle.aeg_base.specs.Locks.{locks_of}
use Rattle.aeg_base.specs.declared.names.Key.{Key}
use Rattle.aeg_base.specs.declared.names.ReqId.{ReqId}
use Rattle.aeg_base.specs.declared.names.Tier.TheVariants.{Inv, Pay}
use Rattle.svc_api.specs.Segment.{Segment}
use Rattle.svc_api.specs.declared.action.Ending.{Ending}
use Rattle.svc_api.specs.declared.action.Ending.TheVariants.{Reply, Call}
use Rattle.server_model.specs.Requests.{request_of}
use Rattle.server_model.specs.declared.request.Request.{Request}
use Rattle.server_model.specs.declared.request.Request.TheVariants.{Open, Book, Cancel, Look}

abbrev pub cell : ℕ → ℕ → Key
cell class id = record { class = class; id = id }

-- sums and products stop at the greatest number of 64 bits, and differences at 0
abbrev pub capped : ℕ → ℕ
capped n = min n (2 ^ 64 - 1)

-- a number read from the store names a key, and stands in a text, with its remainder by 2^32
abbrev pub narrow : ℕ → ℕ
narrow n = n % 2 ^ 32

-- a row that reads these keys, makes these writes, and ends so
abbrev pub does : Store → List Key → List (Key × ℕ) → Ending → Segment
does s reads writes ending = record { store = written_all s writes; ending = ending; keys = reads ++ map (λ write. write.0) writes }

abbrev pub answers : Store → List Key → List ℕ → Segment
answers s reads text = does s reads [] (Reply text)

-- THE TEXTS

abbrev pub shown : ℕ → List ℕ
shown n = codes " " ++ decimal n

abbrev pub already_open : List ℕ
already_open = codes "refused 1 AlreadyOpen"

abbrev pub bad_trip : List ℕ
bad_trip = codes "refused 2 BadTrip"

abbrev pub no_trip : List ℕ
no_trip = codes "refused 3 NoTrip"

abbrev pub is_full : List ℕ
is_full = codes "refused 4 Full"

abbrev pub link_full : List ℕ
link_full = codes "refused 5 LinkFull"

abbrev pub too_many : List ℕ
too_many = codes "refused 6 TooMany"

abbrev pub no_stock : List ℕ
no_stock = codes "refused 7 NoStock"

abbrev pub declined : List ℕ
declined = codes "refused 8 Declined"

abbrev pub no_booking : List ℕ
no_booking = codes "refused 9 NoBooking"

abbrev pub not_yours : List ℕ
not_yours = codes "refused 10 NotYours"

abbrev pub not_booked : List ℕ
not_booked = codes "refused 11 NotBooked"

abbrev pub reserve_text : ℕ → ℕ → List ℕ
reserve_text trip qty = codes "reserve" ++ (shown trip ++ shown qty)

abbrev pub release_text : ℕ → ℕ → List ℕ
release_text trip qty = codes "release" ++ (shown trip ++ shown qty)

abbrev pub charge_text : ℕ → ℕ → List ℕ
charge_text client amount = codes "charge" ++ (shown client ++ shown amount)

abbrev pub refund_text : ℕ → ℕ → List ℕ
refund_text client amount = codes "refund" ++ (shown client ++ shown amount)

abbrev pub status_text : ℕ → ℕ → ℕ → ℕ → List ℕ
status_text booking status trip qty =
    codes "status" ++ (shown booking ++ (shown (narrow status) ++ (shown (narrow trip) ++ shown (narrow qty))))

-- BOOKINGS

-- the booking number of a request
abbrev pub booking_of : ReqId → ℕ
booking_of who = (who.seq - 1) * 16 + who.client

-- who owns a booking
abbrev pub owner_of : ℕ → ℕ
owner_of booking = (booking - 1) % 16 + 1

-- the part of a row that is there where the trip has a link
abbrev pub where_linked : {A : Type 0} → ℕ → List A → List A
where_linked link items = if link == 0 then [] else items

-- OPEN

abbrev pub open_row : ℕ → ℕ → ℕ → ℕ → Store → Segment
open_row trip cap price link s =
    if not (value_at s (cell 0 trip) == 0) then answers s (cell 0 trip ∷ []) already_open
    else if link == trip then answers s (cell 0 trip ∷ []) bad_trip
    else does s (cell 0 trip ∷ []) ((cell 0 trip, cap) ∷ (cell 1 trip, price) ∷ (cell 2 trip, link) ∷ [])
    (Reply (codes "opened" ++ shown trip))

-- BOOK

-- a booking of a quantity of a trip, and what was read for it
abbrev pub booked_writes : ℕ → ℕ → ℕ → ℕ → ℕ → ℕ → ℕ → ℕ → List (Key × ℕ)
booked_writes client booking trip qty link count link_count live =
    (cell 3 trip, capped (count + qty)) ∷ where_linked link ((cell 3 (narrow link), capped (link_count + qty)) ∷ []) ++
    ((cell 4 client, capped (live + 1)) ∷ (cell 5 booking, 1) ∷ (cell 6 booking, trip) ∷ (cell 7 booking, qty) ∷ [])

abbrev pub book_reads : ℕ → ℕ → ℕ → List Key
book_reads client trip link =
    cell 0 trip ∷ cell 3 trip ∷ cell 2 trip ∷ cell 4 client ∷ where_linked link (cell 0 (narrow link) ∷ cell 3 (narrow link) ∷ [])

abbrev pub book_row : ReqId → ℕ → ℕ → Store → Segment
book_row who trip qty s =
    let cap = value_at s (cell 0 trip) in
    let count = value_at s (cell 3 trip) in
    let link = value_at s (cell 2 trip) in
    let live = value_at s (cell 4 who.client) in
    let link_cap = value_at s (cell 0 (narrow link)) in
    let link_count = value_at s (cell 3 (narrow link)) in
    let reads = book_reads who.client trip link in
    if cap == 0 then answers s reads no_trip
    else if nat_lt cap (capped (count + qty)) then answers s reads is_full
    else if not (link == 0) && nat_lt link_cap (capped (link_count + qty)) then answers s reads link_full
    else if nat_le 4 live then answers s reads too_many
    else does s reads (booked_writes who.client (booking_of who) trip qty link count link_count live)
    (Call Inv 1 (reserve_text trip qty))

-- the same booking, given back
abbrev pub returned_writes : ℕ → ℕ → ℕ → ℕ → ℕ → ℕ → ℕ → List (Key × ℕ)
returned_writes client trip qty link count link_count live =
    (cell 3 trip, count - qty) ∷ where_linked link ((cell 3 (narrow link), link_count - qty) ∷ []) ++ ((cell 4 client, live - 1) ∷ [])

abbrev pub cleared_writes : ℕ → List (Key × ℕ)
cleared_writes booking = (cell 5 booking, 0) ∷ (cell 6 booking, 0) ∷ (cell 7 booking, 0) ∷ []

abbrev pub return_reads : ℕ → ℕ → ℕ → List Key
return_reads client trip link = cell 3 trip ∷ cell 2 trip ∷ cell 4 client ∷ where_linked link (cell 3 (narrow link) ∷ [])

-- the seats were granted
abbrev pub book_charges : ReqId → ℕ → ℕ → Store → Segment
book_charges who trip qty s =
    does s (cell 1 trip ∷ []) [] (Call Pay 2 (charge_text who.client (capped (value_at s (cell 1 trip) * qty))))

-- the booking is given back, with more writes behind, and this end
abbrev pub book_returns : ReqId → ℕ → ℕ → List (Key × ℕ) → Ending → Store → Segment
book_returns who trip qty more ending s =
    let link = value_at s (cell 2 trip) in
    does s (return_reads who.client trip link)
    (returned_writes who.client trip qty link (value_at s (cell 3 trip)) (value_at s (cell 3 (narrow link))) (value_at s (cell 4 who.client)) ++ more)
    ending

abbrev pub book_no_stock : ReqId → ℕ → ℕ → Store → Segment
book_no_stock who trip qty s = book_returns who trip qty (cleared_writes (booking_of who)) (Reply no_stock) s

abbrev pub book_booked : ReqId → Store → Segment
book_booked who s = does s [] ((cell 5 (booking_of who), 2) ∷ []) (Reply (codes "booked" ++ shown (booking_of who)))

abbrev pub book_releases : ReqId → ℕ → ℕ → Store → Segment
book_releases who trip qty s = book_returns who trip qty [] (Call Inv 3 (release_text trip qty)) s

abbrev pub book_declined : ReqId → Store → Segment
book_declined who s = does s [] (cleared_writes (booking_of who)) (Reply declined)

-- CANCEL

abbrev pub cancel_row : ReqId → ℕ → Store → Segment
cancel_row who booking s =
    let status = value_at s (cell 5 booking) in
    let trip = narrow (value_at s (cell 6 booking)) in
    let qty = value_at s (cell 7 booking) in
    let reads = cell 5 booking ∷ cell 6 booking ∷ cell 7 booking ∷ [] in
    if status == 0 then answers s reads no_booking
    else if not (owner_of booking == who.client) then answers s reads not_yours
    else if not (status == 2) then answers s reads not_booked
    else does s (reads ++ cell 1 trip ∷ []) ((cell 5 booking, 3) ∷ [])
    (Call Pay 1 (refund_text who.client (capped (value_at s (cell 1 trip) * qty))))

abbrev pub cancel_releases : ℕ → Store → Segment
cancel_releases booking s =
    does s (cell 6 booking ∷ cell 7 booking ∷ []) []
    (Call Inv 2 (release_text (narrow (value_at s (cell 6 booking))) (narrow (value_at s (cell 7 booking)))))

abbrev pub cancel_cancelled : ReqId → ℕ → Store → Segment
cancel_cancelled who booking s =
    let trip = narrow (value_at s (cell 6 booking)) in
    let qty = value_at s (cell 7 booking) in
    let link = value_at s (cell 2 trip) in
    does s (cell 6 booking ∷ cell 7 booking ∷ cell 2 trip ∷ cell 3 trip ∷ cell 4 who.client ∷ where_linked link (cell 3 (narrow link) ∷ []))
    (returned_writes who.client trip qty link (value_at s (cell 3 trip)) (value_at s (cell 3 (narrow link)))
    (value_at s (cell 4 who.client)) ++ cleared_writes booking)
    (Reply (codes "cancelled" ++ shown booking))

-- LOOK

abbrev pub look_row : ReqId → ℕ → Store → Segment
look_row who booking s =
    let status = value_at s (cell 5 booking) in
    let reads = cell 5 booking ∷ cell 6 booking ∷ cell 7 booking ∷ [] in
    if status == 0 then answers s reads no_booking
    else if not (owner_of booking == who.client) then answers s reads not_yours
    else answers s reads (status_text booking status (value_at s (cell 6 booking)) (value_at s (cell 7 booking)))

-- THE STAGES OF A REQUEST

-- a call is granted with the code 0
abbrev pub granted_or : Option ℕ → (Store → Segment) → (Store → Segment) → Store → Segment
granted_or answer granted denied = if unwrap_or answer 0 == 0 then granted else denied

abbrev pub book_stages : ReqId → ℕ → ℕ → ℕ → Option (Option ℕ → Store → Segment)
book_stages who trip qty stage =
    if stage == 0 then Some (λ answer. book_row who trip qty)
    else if stage == 1 then Some (λ answer. granted_or answer (book_charges who trip qty) (book_no_stock who trip qty))
    else if stage == 2 then Some (λ answer. granted_or answer (book_booked who) (book_releases who trip qty))
    else if stage == 3 then Some (λ answer. book_declined who)
    else None

abbrev pub cancel_stages : ReqId → ℕ → ℕ → Option (Option ℕ → Store → Segment)
cancel_stages who booking stage =
    if stage == 0 then Some (λ answer. cancel_row who booking)
    else if stage == 1 then Some (λ answer. cancel_releases booking)
    else if stage == 2 then Some (λ answer. cancel_cancelled who booking)
    else None

abbrev pub stages_of : ReqId → Request → ℕ → Option (Option ℕ → Store → Segment)
stages_of who (Open trip cap price link) stage = if stage == 0 then Some (λ answer. open_row trip cap price link) else None
stages_of who (Book trip qty) stage = book_stages who trip qty stage
stages_of who (Cancel booking) stage = cancel_stages who booking stage
stages_of who (Look booking) stage = if stage == 0 then Some (λ answer. look_row who booking) else None

abbrev pub stages_in : ReqId → ℕ → Result Request ℕ → Option (Option ℕ → Store → Segment)
stages_in who stage (Ok request) = stages_of who request stage
stages_in who stage (Err row) = None

-- the segment of a request's text at a stage, with the answer of its call; none where there is no such text or stage
abbrev pub booking_table : ReqId → List ℕ → ℕ → Option (Option ℕ → Store → Segment)
booking_table who body stage = stages_in who stage (request_of body)

-- THE DECLARED LOCKS

-- the keys whose locks a request declares at each of its stages
abbrev pub declared_keys : ReqId → Request → List Key
declared_keys who (Open trip cap price link) = cell 0 trip ∷ cell 1 trip ∷ cell 2 trip ∷ []
declared_keys who (Book trip qty) =
    cell 0 trip ∷ cell 1 trip ∷ cell 2 trip ∷ cell 3 trip ∷ cell 4 who.client ∷ cell 5 (booking_of who) ∷ cell 6 (booking_of who) ∷ cell 7 (booking_of who) ∷ []
declared_keys who (Cancel booking) = cell 4 who.client ∷ cell 5 booking ∷ cell 6 booking ∷ cell 7 booking ∷ []
declared_keys who (Look booking) = cell 5 booking ∷ cell 6 booking ∷ cell 7 booking ∷ []

abbrev pub declared_locks : ReqId → Request → List Bool
declared_locks who request = locks_of (declared_keys who request)
