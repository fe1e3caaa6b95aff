-- Which rule refuses a request, over what was read, and its text.
use Rattle.std.specs.Prelude.{ℕ, ◌+◌, ◌==◌, nat_lt, nat_le, not, ◌&&◌, List, [], ◌∷◌, Option, if◌then◌else◌}
use Rattle.rule_table.specs.Rows.{first_row}
use Rattle.server_model.specs.Booking.{capped, owner_of, already_open, bad_trip, no_trip, is_full, link_full, too_many}
use Rattle.server_model.specs.Booking.{no_stock, declined, no_booking, not_yours, not_booked}

-- the text of a rule
abbrev pub refusal_text : ℕ → List ℕ
refusal_text row =
    if row == 1 then already_open
    else if row == 2 then bad_trip
    else if row == 3 then no_trip
    else if row == 4 then is_full
    else if row == 5 then link_full
    else if row == 6 then too_many
    else if row == 7 then no_stock
    else if row == 8 then declined
    else if row == 9 then no_booking
    else if row == 10 then not_yours
    else not_booked

-- the trip was opened before; it is linked to itself
abbrev pub open_refusal : ℕ → ℕ → ℕ → Option ℕ
open_refusal trip link cap = first_row (1 ∷ 2 ∷ []) (not (cap == 0) ∷ (link == trip) ∷ [])

-- there is no such trip; it is full, or its link is; the client has too many bookings
abbrev pub book_refusal : ℕ → ℕ → ℕ → ℕ → ℕ → ℕ → ℕ → Option ℕ
book_refusal qty cap count link live link_cap link_count =
    first_row (3 ∷ 4 ∷ 5 ∷ 6 ∷ [])
    ((cap == 0) ∷ nat_lt cap (capped (count + qty)) ∷ (not (link == 0) && nat_lt link_cap (capped (link_count + qty))) ∷ nat_le 4 live ∷ [])

-- there is no such booking; it is another client's
abbrev pub look_refusal : ℕ → ℕ → ℕ → Option ℕ
look_refusal client booking status = first_row (9 ∷ 10 ∷ []) ((status == 0) ∷ not (owner_of booking == client) ∷ [])

-- there is no such booking; it is another client's; it isn't booked
abbrev pub cancel_refusal : ℕ → ℕ → ℕ → Option ℕ
cancel_refusal client booking status =
    first_row (9 ∷ 10 ∷ 11 ∷ []) ((status == 0) ∷ not (owner_of booking == client) ∷ not (status == 2) ∷ [])
