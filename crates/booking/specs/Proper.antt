-- Each segment is within the limits, and names keys of a store.
use Rattle.std.proofs.Common.{ℕ, ◌+◌, ◌-◌, ◌*◌, ◌^◌, ◌<◌, ◌≤◌, ◌==◌, Bool, true, false, List, Option}
use Rattle.std.proofs.Common.{None, Some, if◌then◌else◌, unwrap_or, arith, lit<, lit≤}
use Rattle.std.specs.Prelude.{codes}
use Rattle.std.specs.declared.result.Result.{Result}
use Rattle.std.specs.declared.result.Result.TheVariants.{Ok, Err}
use Rattle.aeg_base.specs.declared.names.ReqId.{ReqId}
use Rattle.svc_api.specs.Plan.{Reads, Writes, Ends, IsBounded}
use Rattle.svc_api.specs.Requests.{IsRequest}
use Rattle.svc_api.specs.Segment.{IsProper}
use Rattle.server_model.specs.Booking.{cell, capped, narrow, booking_of, shown}
use Rattle.server_model.specs.Requests.{request_of}
use Rattle.server_model.specs.declared.request.Request.{Request}
use Rattle.server_model.specs.declared.request.Request.TheVariants.{Open, Book, Cancel, Look}
use Rattle.booking.specs.Places as place
use Rattle.booking.specs.Within.{narrow_below, capped_below, wide_length, widest_length, two_parts, one_part}
use Rattle.booking.specs.Within.{status_length, refused_bounded, bounded_if, clears_bounded, releases_bounded}
use Rattle.booking.specs.Ranges.{IsOpen, HasRequest, request_in_range}
use Rattle.booking.specs.Beginning.{booking_beginning, beginning_in, begins_at, new_booking, view_course, recall_course}
use Rattle.booking.specs.declared.course.NewTrip.{NewTrip}
use Rattle.booking.specs.declared.course.NewBooking.{NewBooking}
use Rattle.booking.specs.declared.course.TripState.{TripState}
use Rattle.booking.specs.declared.course.Return.{Return}
use Rattle.booking.specs.declared.course.AfterReturn.{AfterReturn}
use Rattle.booking.specs.declared.course.AfterReturn.TheVariants.{Release, Clear}
use Rattle.booking.specs.declared.course.Closing.TheVariants.{NoStock, Declined}
use Rattle.booking.specs.declared.course.View.{View}
use Rattle.booking.specs.declared.course.Recall.{Recall}
use Rattle.booking.specs.declared.course.Asked.TheVariants.{Reserve, Charge}
use Rattle.booking.specs.declared.course.OpenPlace.TheVariants as opening
use Rattle.booking.specs.declared.course.BookPlace.TheVariants as booking
use Rattle.booking.specs.declared.course.ClearPlace.TheVariants as clearing
use Rattle.booking.specs.Course.{course_plan}
use Rattle.booking.specs.declared.course.Course.{Course}
use Rattle.booking.specs.declared.course.Course.TheVariants.{Opens, Books, Answers, Clears}

-- the numbers of what is given back name keys, and stand in texts
abbrev IsReturn : Return → AfterReturn → Type 0
IsReturn r Release = r.qty < 2 ^ 32
IsReturn r (Clear booking closing) = booking < 2 ^ 32

is_returned_bounded : (r : Return) (after : AfterReturn) (actions puts : ℕ) → r.trip < 2 ^ 32 → IsReturn r after
    → 3 < actions → 2 < puts → IsBounded actions puts (place.is_returned r after)
is_returned_bounded r Release actions puts t h a p = releases_bounded r.trip r.qty 3 actions puts t h (lit≤ tt) (lit≤ tt) (omega arith)
is_returned_bounded r (Clear booking closing) actions puts t h a p = clears_bounded booking closing actions puts h a p

live_bounded : (r : Return) (live actions puts : ℕ) → r.client < 2 ^ 32 → r.trip < 2 ^ 32 → IsReturn r r.after
    → live < 2 ^ 64 → 4 < actions → 3 < puts → IsBounded actions puts (place.returns_live r live)
live_bounded r live actions puts c t h l a p =
    (omega arith, (omega arith, ((lit< tt, c), (omega arith, is_returned_bounded r r.after (actions - 1) (puts - 1) t h (omega arith) (omega arith)))))

returns_bounded : (r : Return) (count link live link_count actions : ℕ) → r.client < 2 ^ 32 → r.trip < 2 ^ 32
    → IsReturn r r.after → count < 2 ^ 64 → live < 2 ^ 64 → link_count < 2 ^ 64 → 6 < actions
    → IsBounded actions 8 (place.returns_with r count link live link_count)
returns_bounded r count link live link_count actions c t h n l m a = (
  omega arith,
  (
    lit< tt,
    (
      (lit< tt, t),
      (
        omega arith,
        bounded_if (link == 0) (actions - 1) 7 (place.returns_live r live) (place.returns_link_count r link live link_count)
            (live_bounded r live (actions - 1) 7 c t h l (omega arith) (lit< tt))
            (omega arith, (lit< tt, ((lit< tt, narrow_below link), (omega arith, live_bounded r live (actions - 1 - 1) 6 c t h l (omega arith) (lit< tt))))),
      ),
    ),
  ),
)

return_bounded : (r : Return) (count link actions : ℕ) → r.client < 2 ^ 32 → r.trip < 2 ^ 32 → IsReturn r r.after
    → count < 2 ^ 64 → 8 < actions → IsBounded actions 8 (place.return_has_link r count link)
return_bounded r count link actions c t h n a = (
  omega arith,
  (
    (lit< tt, c),
    λ live l.
        bounded_if (link == 0) (actions - 1) 8 (place.returns_with r count link live 0) (Reads (cell 3 (narrow link)) (place.returns_with r count link live))
        (returns_bounded r count link live 0 (actions - 1) c t h n l (lit< tt) (omega arith))
        (omega arith, ((lit< tt, narrow_below link), λ link_count m. returns_bounded r count link live link_count (actions - 1 - 1) c t h n l m (omega arith))),
  ),
)

returns_all_bounded : (r : Return) → r.client < 2 ^ 32 → r.trip < 2 ^ 32 → IsReturn r r.after → IsBounded 32 8 (place.returns r)
returns_all_bounded r c t h = (lit< tt, ((lit< tt, t), λ count n. (lit< tt, ((lit< tt, t), λ link l. return_bounded r count link 30 c t h n (lit< tt)))))

-- WHOLE SEGMENTS

opens_bounded : (t : NewTrip) → IsOpen t.trip t.cap t.price t.link → IsBounded 32 8 (place.opens t)
opens_bounded t h =
    let id : t.trip < 2 ^ 32 = omega (arith, h.trip_high) in
    let cap : t.cap < 2 ^ 64 = omega (arith, h.cap_high) in
    let price : t.price < 2 ^ 64 = omega (arith, h.price_high) in
    let link : t.link < 2 ^ 64 = omega (arith, h.link_high) in (
      lit< tt,
      (
        (lit< tt, id),
        λ seen n. refused_bounded _ 31 8 (Writes (cell 0 t.trip) t.cap (place.puts_price t)) (lit< tt) (
          lit< tt,
          (
            lit< tt,
            (
              (lit< tt, id),
              (
                cap,
                (
                  lit< tt,
                  (
                    lit< tt,
                    (
                      (lit< tt, id),
                      (
                        price,
                        (
                          lit< tt,
                          (
                            lit< tt,
                            (
                              (lit< tt, id),
                              (
                                link,
                                (lit< tt, one_part (codes "opened") (shown t.trip) 6 11 (lit≤ tt) (wide_length t.trip id) (lit≤ tt)),
                              ),
                            ),
                          ),
                        ),
                      ),
                    ),
                  ),
                ),
              ),
            ),
          ),
        ),
      ),
    )

-- no number of a booking is past its range
record IsNewBooking (b : NewBooking) : Type 0 where
  client : b.client ≤ 16
  booking : b.booking ≤ 1048576
  trip : b.trip ≤ 9999
  qty : b.qty ≤ 100

puts_live_bounded : (b : NewBooking) (live actions puts : ℕ) → IsNewBooking b → 4 < actions → 3 < puts → IsBounded actions puts (place.puts_live b live)
puts_live_bounded b live actions puts h a p =
    let client : b.client < 2 ^ 32 = omega (arith, h.client) in
    let id : b.booking < 2 ^ 32 = omega (arith, h.booking) in
    let trip : b.trip < 2 ^ 32 = omega (arith, h.trip) in
    let qty : b.qty < 2 ^ 32 = omega (arith, h.qty) in (
      omega arith,
      (
        omega arith,
        (
          (lit< tt, client),
          (
            capped_below (live + 1),
            (
              omega arith,
              (
                omega arith,
                (
                  (lit< tt, id),
                  (
                    lit< tt,
                    (
                      omega arith,
                      (
                        omega arith,
                        (
                          (lit< tt, id),
                          (
                            omega arith,
                            (
                              omega arith,
                              (
                                omega arith,
                                (
                                  (lit< tt, id),
                                  (
                                    omega arith,
                                    (
                                      omega arith,
                                      (
                                        tt,
                                        (
                                          lit≤ tt,
                                          (
                                            lit≤ tt,
                                            two_parts (codes "reserve") (shown b.trip) (shown b.qty) 7 11 11
                                                (lit≤ tt) (wide_length b.trip trip) (wide_length b.qty qty) (lit≤ tt),
                                          ),
                                        ),
                                      ),
                                    ),
                                  ),
                                ),
                              ),
                            ),
                          ),
                        ),
                      ),
                    ),
                  ),
                ),
              ),
            ),
          ),
        ),
      ),
    )

books_with_bounded : (b : NewBooking) (t : TripState) (link_cap link_count actions : ℕ) → IsNewBooking b → 6 < actions
    → IsBounded actions 8 (place.books_with b t link_cap link_count)
books_with_bounded b t link_cap link_count actions h a =
    let trip : b.trip < 2 ^ 32 = omega (arith, h.trip) in
    refused_bounded _ actions 8 (Writes (cell 3 b.trip) (capped (t.count + b.qty)) (place.after_count b t link_count)) (omega arith) (
      omega arith,
      (
        lit< tt,
        (
          (lit< tt, trip),
          (
            capped_below (t.count + b.qty),
            bounded_if (t.link == 0) (actions - 1) 7 (place.puts_live b t.live) (place.puts_link_count b t link_count)
                (puts_live_bounded b t.live (actions - 1) 7 h (omega arith) (lit< tt)) (
                  omega arith,
                  (
                    lit< tt,
                    (
                      (lit< tt, narrow_below t.link),
                      (
                        capped_below (link_count + b.qty),
                        puts_live_bounded b t.live (actions - 1 - 1) 6 h (omega arith) (lit< tt),
                      ),
                    ),
                  ),
                ),
          ),
        ),
      ),
    )

books_bounded : (b : NewBooking) → IsNewBooking b → IsBounded 32 8 (place.books b)
books_bounded b h =
    let client : b.client < 2 ^ 32 = omega (arith, h.client) in
    let trip : b.trip < 2 ^ 32 = omega (arith, h.trip) in (
      lit< tt,
      (
        (lit< tt, trip),
        λ cap n. (
          lit< tt,
          (
            (lit< tt, trip),
            λ count m. (
              lit< tt,
              (
                (lit< tt, trip),
                λ link l. (
                  lit< tt,
                  (
                    (lit< tt, client),
                    λ live i.
                        let t : TripState = record { cap = cap; count = count; link = link; live = live } in
                        bounded_if (link == 0) 28 8 (place.books_with b t 0 0) (Reads (cell 0 (narrow link)) (place.has_link_cap b t))
                        (books_with_bounded b t 0 0 28 h (lit< tt)) (
                          lit< tt,
                          (
                            (lit< tt, narrow_below link),
                            λ link_cap j. (
                              lit< tt,
                              (
                                (lit< tt, narrow_below link),
                                λ link_count k. books_with_bounded b t link_cap link_count 26 h (lit< tt),
                              ),
                            ),
                          ),
                        ),
                  ),
                ),
              ),
            ),
          ),
        ),
      ),
    )

is_reserved_bounded : (b : NewBooking) (code : ℕ) → IsNewBooking b → IsBounded 32 8 (place.is_reserved b code)
is_reserved_bounded b code h =
    let client : b.client < 2 ^ 32 = omega (arith, h.client) in
    let id : b.booking < 2 ^ 32 = omega (arith, h.booking) in
    let trip : b.trip < 2 ^ 32 = omega (arith, h.trip) in
    bounded_if (code == 0) 32 8 (Reads (cell 1 b.trip) (place.charges_with b)) (place.returns (place.return_of b (Clear b.booking NoStock))) (
      lit< tt,
      (
        (lit< tt, trip),
        λ price n. (
          lit< tt,
          (
            tt,
            (
              lit≤ tt,
              (
                lit≤ tt,
                two_parts (codes "charge") (shown b.client) (shown (capped (price * b.qty))) 6 11 21 (lit≤ tt)
                    (wide_length b.client client) (widest_length (capped (price * b.qty)) (capped_below (price * b.qty))) (lit≤ tt),
              ),
            ),
          ),
        ),
      ),
    )
    (returns_all_bounded (place.return_of b (Clear b.booking NoStock)) client trip id)

is_charged_bounded : (b : NewBooking) (code : ℕ) → IsNewBooking b → IsBounded 32 8 (place.is_charged b code)
is_charged_bounded b code h =
    let client : b.client < 2 ^ 32 = omega (arith, h.client) in
    let id : b.booking < 2 ^ 32 = omega (arith, h.booking) in
    let trip : b.trip < 2 ^ 32 = omega (arith, h.trip) in
    let qty : b.qty < 2 ^ 32 = omega (arith, h.qty) in
    bounded_if (code == 0) 32 8 (Writes (cell 5 b.booking) 2 (place.reply_booked b.booking)) (place.returns (place.return_of b Release))
    (lit< tt, (lit< tt, ((lit< tt, id), (lit< tt, (lit< tt, one_part (codes "booked") (shown b.booking) 6 11 (lit≤ tt) (wide_length b.booking id) (lit≤ tt))))))
    (returns_all_bounded (place.return_of b Release) client trip qty)

viewed_bounded : (cancels : Bool) (v : View) (status trip qty : ℕ) → v.client ≤ 16 → v.booking ≤ 1048576
    → IsBounded 29 8 (place.viewed cancels v status trip qty)
viewed_bounded false v status trip qty c b = refused_bounded _ 29 8 (Ends _) (lit< tt) (lit< tt, status_length v.booking status trip qty b)
viewed_bounded true v status trip qty c b =
    let client : v.client < 2 ^ 32 = omega arith in
    let id : v.booking < 2 ^ 32 = omega arith in
    refused_bounded _ 29 8 (Reads (cell 1 (narrow trip)) (place.cancels_with v qty)) (lit< tt) (
      lit< tt,
      (
        (lit< tt, narrow_below trip),
        λ price n. (
          lit< tt,
          (
            lit< tt,
            (
              (lit< tt, id),
              (
                lit< tt,
                (
                  lit< tt,
                  (
                    tt,
                    (
                      lit≤ tt,
                      (
                        lit≤ tt,
                        two_parts (codes "refund") (shown v.client) (shown (capped (price * qty))) 6 11 21
                            (lit≤ tt) (wide_length v.client client)
                            (widest_length (capped (price * qty)) (capped_below (price * qty))) (lit≤ tt),
                      ),
                    ),
                  ),
                ),
              ),
            ),
          ),
        ),
      ),
    )

views_bounded : (v : View) → v.client ≤ 16 → v.booking ≤ 1048576 → IsBounded 32 8 (place.views v)
views_bounded v c b =
    let id : v.booking < 2 ^ 32 = omega arith in (
      lit< tt,
      (
        (lit< tt, id),
        λ status n. (
          lit< tt,
          ((lit< tt, id), λ trip m. (lit< tt, ((lit< tt, id), λ qty k. viewed_bounded v.cancels v status trip qty c b))),
        ),
      ),
    )

recalled_bounded : (released : Bool) (c : Recall) (trip qty : ℕ) → c.client ≤ 16 → c.booking ≤ 1048576 → IsBounded 30 8 (place.recalled released c trip qty)
recalled_bounded false c trip qty h k = releases_bounded (narrow trip) (narrow qty) 2 30 8 (narrow_below trip) (narrow_below qty) (lit≤ tt) (lit≤ tt) (lit< tt)
recalled_bounded true c trip qty h k =
    let client : c.client < 2 ^ 32 = omega arith in
    let id : c.booking < 2 ^ 32 = omega arith in (
      lit< tt,
      (
        (lit< tt, narrow_below trip),
        λ link n. (
          lit< tt,
          (
            (lit< tt, narrow_below trip),
            λ count m.
                return_bounded (place.recall_return c trip qty) count link 28 client (narrow_below trip) id m (lit< tt),
          ),
        ),
      ),
    )

recalls_bounded : (c : Recall) → c.client ≤ 16 → c.booking ≤ 1048576 → IsBounded 32 8 (place.recalls c)
recalls_bounded c h k =
    let id : c.booking < 2 ^ 32 = omega arith in
    (lit< tt, ((lit< tt, id), λ trip n. (lit< tt, ((lit< tt, id), λ qty m. recalled_bounded c.released c trip qty h k))))

-- ALL STAGES

booking_high : (who : ReqId) → IsRequest who → booking_of who ≤ 1048576
booking_high who h = omega (arith, h.client_high, h.seq_low, h.seq_high)

proper_if : (locks : List Bool) (b : Bool) (course : Course) (rest : Option Course)
    → ((told : ℕ) → IsBounded 32 8 (course_plan course told)) → IsProper (begins_at locks rest)
    → IsProper (begins_at locks (if b then Some course else rest))
proper_if locks true course rest h k = λ answer. h (unwrap_or answer 0)
proper_if locks false course rest h k = k

proper_in : (who : ReqId) (stage : ℕ) (read : Result Request ℕ) → IsRequest who → HasRequest read → IsProper (beginning_in who stage read)
proper_in who stage (Err row) w h = tt
proper_in who stage (Ok (Open trip cap price link)) w h =
    let t : NewTrip = record { trip = trip; cap = cap; price = price; link = link } in
    proper_if _ (stage == 0) (Opens t opening.Begins) None (λ told. opens_bounded t h) tt
proper_in who stage (Ok (Book trip qty)) w h =
    let b : NewBooking = new_booking who trip qty in
    let is_new : IsNewBooking b = record { client = w.client_high; booking = booking_high who w; trip = h.trip_high; qty = h.qty_high } in
    let id : booking_of who < 2 ^ 32 = omega (arith, booking_high who w) in
    proper_if _ (stage == 0) (Books b booking.Begins) _ (λ told. books_bounded b is_new)
    (proper_if _ (stage == 1) (Answers b Reserve) _ (λ told. is_reserved_bounded b told is_new)
    (proper_if _ (stage == 2) (Answers b Charge) _ (λ told. is_charged_bounded b told is_new)
    (proper_if _ (stage == 3) (Clears (booking_of who) Declined clearing.Status) None
    (λ told. clears_bounded (booking_of who) Declined 32 8 id (lit< tt) (lit< tt)) tt)))
proper_in who stage (Ok (Cancel number)) w h =
    proper_if _ (stage == 0) (view_course who.client number true) _
    (λ told. views_bounded (record { client = who.client; booking = number; cancels = true }) w.client_high h)
    (proper_if _ (stage == 1) (recall_course who.client number false) _
    (λ told. recalls_bounded (record { client = who.client; booking = number; released = false }) w.client_high h)
    (proper_if _ (stage == 2) (recall_course who.client number true) None
    (λ told. recalls_bounded (record { client = who.client; booking = number; released = true }) w.client_high h) tt))
proper_in who stage (Ok (Look number)) w h =
    proper_if _ (stage == 0) (view_course who.client number false) None
    (λ told. views_bounded (record { client = who.client; booking = number; cancels = false }) w.client_high h) tt

pub booking_proper : (who : ReqId) (body : List ℕ) (stage : ℕ) → IsRequest who → IsProper (booking_beginning who body stage)
booking_proper who body stage w = proper_in who stage (request_of body) w (request_in_range body)
