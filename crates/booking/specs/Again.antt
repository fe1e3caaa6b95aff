-- The next stage that a call names is one of its request's.
use Rattle.std.specs.Prelude.{ℕ, ◌+◌, ◌*◌, ◌==◌, nat_lt, nat_le, not, ◌&&◌, Bool, true, false, List, ◌∷◌, [], ◌++◌}
use Rattle.std.specs.Prelude.{codes, if◌then◌else◌, Option, Some, None, unwrap_or, refl}
use Rattle.std.specs.declared.result.Result.{Result}
use Rattle.std.specs.declared.result.Result.TheVariants.{Ok, Err}
use Rattle.aeg_base.specs.Store.{Store, value_at}
use Rattle.aeg_base.specs.declared.names.ReqId.{ReqId}
use Rattle.aeg_base.specs.declared.names.Key.{Key}
use Rattle.aeg_base.specs.declared.names.Tier.TheVariants.{Inv, Pay}
use Rattle.svc_api.specs.declared.action.Ending.TheVariants.{Reply, Call}
use Rattle.svc_api.specs.Segment.{Segment, HasStage, GoesOn}
use Rattle.server_model.specs.Booking as table
use Rattle.server_model.specs.Booking.{cell, capped, narrow, owner_of}
use Rattle.server_model.specs.Requests.{request_of}
use Rattle.server_model.specs.declared.request.Request.{Request}
use Rattle.server_model.specs.declared.request.Request.TheVariants.{Open, Book, Cancel, Look}

abbrev Stages : Type 0
Stages = ℕ → Option (Option ℕ → Store → Segment)

either : (stages : Stages) (b : Bool) (f g : Store → Segment) (s : Store) → HasStage stages (f s).ending
    → HasStage stages (g s).ending → HasStage stages ((if b then f else g) s).ending
either stages true f g s p q = p
either stages false f g s p q = q

-- refusals are replies
after_two : (stages : Stages) (s : Store) (reads : List Key) (a b : Bool) (v w : List ℕ) (last : Segment) → HasStage stages last.ending →
    HasStage stages (if a then table.answers s reads v else if b then table.answers s reads w else last).ending
after_two stages s reads true b v w last h = tt
after_two stages s reads false true v w last h = tt
after_two stages s reads false false v w last h = h

after_three : (stages : Stages) (s : Store) (reads : List Key) (a b c : Bool) (v w x : List ℕ) (last : Segment) → HasStage stages last.ending →
    HasStage stages (if a then table.answers s reads v else if b then table.answers s reads w else if c then table.answers s reads x else last).ending
after_three stages s reads true b c v w x last h = tt
after_three stages s reads false b c v w x last h = after_two stages s reads b c w x last h

after_four : (stages : Stages) (s : Store) (reads : List Key) (a b c d : Bool) (v w x y : List ℕ) (last : Segment) → HasStage stages last.ending →
    HasStage stages (if a then table.answers s reads v else if b then table.answers s reads
    w else if c then table.answers s reads x else if d then table.answers s reads y else last).ending
after_four stages s reads true b c d v w x y last h = tt
after_four stages s reads false b c d v w x y last h = after_three stages s reads b c d w x y last h

open_again : (stages : Stages) (trip cap price link : ℕ) (s : Store) → HasStage stages (table.open_row trip cap price link s).ending
open_again stages trip cap price link s =
    let reads : List Key = cell 0 trip ∷ [] in
    after_two stages s reads (not (value_at s (cell 0 trip) == 0)) (link == trip) table.already_open table.bad_trip
    (table.does s reads ((cell 0 trip, cap) ∷ (cell 1 trip, price) ∷ (cell 2 trip, link) ∷ []) (Reply (codes "opened" ++ table.shown trip))) tt

book_again : (who : ReqId) (trip qty : ℕ) (s : Store) → HasStage (table.book_stages who trip qty) (table.book_row who trip qty s).ending
book_again who trip qty s =
    let cap : ℕ = value_at s (cell 0 trip) in
    let count : ℕ = value_at s (cell 3 trip) in
    let link : ℕ = value_at s (cell 2 trip) in
    let live : ℕ = value_at s (cell 4 who.client) in
    let link_cap : ℕ = value_at s (cell 0 (narrow link)) in
    let link_count : ℕ = value_at s (cell 3 (narrow link)) in
    let reads : List Key = table.book_reads who.client trip link in
    after_four (table.book_stages who trip qty) s reads
    (cap == 0) (nat_lt cap (capped (count + qty))) (not (link == 0) && nat_lt link_cap (capped (link_count + qty))) (nat_le 4 live)
    table.no_trip table.is_full table.link_full table.too_many
    (table.does s reads (table.booked_writes who.client (table.booking_of who) trip qty link count link_count live)
    (Call Inv 1 (table.reserve_text trip qty))) refl

cancel_again : (who : ReqId) (booking : ℕ) (s : Store) → HasStage (table.cancel_stages who booking) (table.cancel_row who booking s).ending
cancel_again who booking s =
    let status : ℕ = value_at s (cell 5 booking) in
    let trip : ℕ = narrow (value_at s (cell 6 booking)) in
    let qty : ℕ = value_at s (cell 7 booking) in
    let reads : List Key = cell 5 booking ∷ cell 6 booking ∷ cell 7 booking ∷ [] in
    after_three (table.cancel_stages who booking) s reads
    (status == 0) (not (owner_of booking == who.client)) (not (status == 2))
    table.no_booking table.not_yours table.not_booked
    (table.does s (reads ++ cell 1 trip ∷ []) ((cell 5 booking, 3) ∷ [])
    (Call Pay 1 (table.refund_text who.client (capped (value_at s (cell 1 trip) * qty))))) refl

look_again : (stages : Stages) (who : ReqId) (booking : ℕ) (s : Store) → HasStage stages (table.look_row who booking s).ending
look_again stages who booking s =
    let status : ℕ = value_at s (cell 5 booking) in
    let reads : List Key = cell 5 booking ∷ cell 6 booking ∷ cell 7 booking ∷ [] in
    after_two stages s reads (status == 0) (not (owner_of booking == who.client)) table.no_booking table.not_yours
    (table.answers s reads (table.status_text booking status (value_at s (cell 6 booking)) (value_at s (cell 7 booking)))) tt

book_goes_on : (who : ReqId) (trip qty : ℕ) (first second third fourth : Bool) →
    GoesOn (if first then Some (λ answer. table.book_row who trip qty)
    else if second then Some (λ answer. table.granted_or answer (table.book_charges who trip qty) (table.book_no_stock who trip qty))
    else if third then Some (λ answer. table.granted_or answer (table.book_booked who) (table.book_releases who trip qty))
    else if fourth then Some (λ answer. table.book_declined who)
    else None) (table.book_stages who trip qty)
book_goes_on who trip qty true second third fourth = λ answer s. book_again who trip qty s
book_goes_on who trip qty false true third fourth = λ answer s. either (table.book_stages who trip qty)
    (unwrap_or answer 0 == 0) (table.book_charges who trip qty) (table.book_no_stock who trip qty) s refl tt
book_goes_on who trip qty false false true fourth = λ answer s. either (table.book_stages who trip qty)
    (unwrap_or answer 0 == 0) (table.book_booked who) (table.book_releases who trip qty) s tt refl
book_goes_on who trip qty false false false true = λ answer s. tt
book_goes_on who trip qty false false false false = tt

cancel_goes_on : (who : ReqId) (booking : ℕ) (first second third : Bool) →
    GoesOn (if first then Some (λ answer. table.cancel_row who booking)
    else if second then Some (λ answer. table.cancel_releases booking)
    else if third then Some (λ answer. table.cancel_cancelled who booking)
    else None) (table.cancel_stages who booking)
cancel_goes_on who booking true second third = λ answer s. cancel_again who booking s
cancel_goes_on who booking false true third = λ answer s. refl
cancel_goes_on who booking false false true = λ answer s. tt
cancel_goes_on who booking false false false = tt

one_goes_on : (stages : Stages) (row : Store → Segment) → ((s : Store) → HasStage stages (row s).ending)
    → (first : Bool) → GoesOn (if first then Some (λ answer. row) else None) stages
one_goes_on stages row h true = λ answer s. h s
one_goes_on stages row h false = tt

again_in : (who : ReqId) (stage : ℕ) (read : Result Request ℕ) → GoesOn (table.stages_in who stage read) (λ next. table.stages_in who next read)
again_in who stage (Err row) = tt
again_in who stage (Ok (Open trip cap price link)) = one_goes_on
    (λ next. table.stages_of who (Open trip cap price link) next) (table.open_row trip cap price link)
    (open_again (λ next. table.stages_of who (Open trip cap price link) next) trip cap price link) (stage == 0)
again_in who stage (Ok (Book trip qty)) = book_goes_on who trip qty (stage == 0) (stage == 1) (stage == 2) (stage == 3)
again_in who stage (Ok (Cancel booking)) = cancel_goes_on who booking (stage == 0) (stage == 1) (stage == 2)
again_in who stage (Ok (Look booking)) = one_goes_on (λ next. table.stages_of who (Look booking) next)
    (table.look_row who booking) (look_again (λ next. table.stages_of who (Look booking) next) who booking) (stage == 0)

pub booking_again : (who : ReqId) (body : List ℕ) (stage : ℕ) → GoesOn (table.booking_table who body stage) (table.booking_table who body)
booking_again who body stage = again_in who stage (request_of body)
