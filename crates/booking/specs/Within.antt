-- Parts of segments are within the limits: numbers, texts, and what several segments do.
use Rattle.std.proofs.Common.{ℕ, ◌+◌, ◌-◌, ◌^◌, ◌<◌, ◌≤◌, ◌==◌, Bool, true, false, List, ◌++◌, length, Option}
use Rattle.std.proofs.Common.{None, Some, if◌then◌else◌, arith, lit<, lit≤, length-append}
use Rattle.std.specs.Prelude.{codes}
use Rattle.std.proofs.lemmas.Fmt.{length-decimal-le}
use Rattle.svc_api.specs.Plan.{Plan, IsBounded}
use Rattle.server_model.specs.Booking as table
use Rattle.server_model.specs.Booking.{capped, narrow, shown}
use Rattle.booking.specs.Refusals.{refusal_text}
use Rattle.booking.specs.Places as place
use Rattle.booking.specs.Places.{refused_or}
use Rattle.booking.specs.declared.course.Closing.{Closing}
use Rattle.booking.specs.declared.course.Closing.TheVariants.{NoStock, Declined, Cancelled}

-- NUMBERS AND TEXTS

pub narrow_below : (n : ℕ) → narrow n < 2 ^ 32
narrow_below n = omega arith

pub capped_below : (n : ℕ) → capped n < 2 ^ 64
capped_below n = omega arith

pub shown_length : (k n : ℕ) → 0 < k → n < 10 ^ k → n < 2 ^ 64 → length (shown n) ≤ k + 1
shown_length k n p q r = omega (arith, length-decimal-le k n p q r)

pub wide_length : (n : ℕ) → n < 2 ^ 32 → length (shown n) ≤ 11
wide_length n h = shown_length 10 n (lit< tt) (omega arith) (omega arith)

pub widest_length : (n : ℕ) → n < 2 ^ 64 → length (shown n) ≤ 21
widest_length n h = shown_length 20 n (lit< tt) (omega arith) h

pub two_parts : (w x y : List ℕ) (i j k : ℕ) → length w ≤ i → length x ≤ j → length y ≤ k → i + (j + k) ≤ 48 → length (w ++ (x ++ y)) ≤ 48
two_parts w x y i j k p q r h = omega (arith, length-append w (x ++ y), length-append x y)

pub one_part : (w x : List ℕ) (i j : ℕ) → length w ≤ i → length x ≤ j → i + j ≤ 48 → length (w ++ x) ≤ 48
one_part w x i j p q h = omega (arith, length-append w x)

pub status_length : (booking status trip qty : ℕ) → booking ≤ 1048576 → length (table.status_text booking status trip qty) ≤ 48
status_length booking status trip qty h =
    let b : length (shown booking) ≤ 8 = shown_length 7 booking (lit< tt) (omega arith) (omega arith) in
    let s : length (shown (narrow status)) ≤ 11 = wide_length (narrow status) (narrow_below status) in
    let t : length (shown (narrow trip)) ≤ 11 = wide_length (narrow trip) (narrow_below trip) in
    let q : length (shown (narrow qty)) ≤ 11 = wide_length (narrow qty) (narrow_below qty) in
    omega (
      arith,
      length-append (codes "status")
          (shown booking ++ (shown (narrow status) ++ (shown (narrow trip) ++ shown (narrow qty)))),
      length-append (shown booking) (shown (narrow status) ++ (shown (narrow trip) ++ shown (narrow qty))),
      length-append (shown (narrow status)) (shown (narrow trip) ++ shown (narrow qty)),
      length-append (shown (narrow trip)) (shown (narrow qty)),
    )

pub short_if : (b : Bool) (x y : List ℕ) → length x ≤ 48 → length y ≤ 48 → length (if b then x else y) ≤ 48
short_if true x y p q = p
short_if false x y p q = q

pub refusal_length : (row : ℕ) → length (refusal_text row) ≤ 48
refusal_length row =
    short_if (row == 1) _ _ (lit≤ tt) (short_if (row == 2) _ _ (lit≤ tt) (short_if (row == 3) _ _ (lit≤ tt) (short_if (row == 4) _ _ (lit≤ tt)
    (short_if (row == 5) _ _ (lit≤ tt) (short_if (row == 6) _ _ (lit≤ tt) (short_if (row == 7) _ _ (lit≤ tt) (short_if (row == 8) _ _ (lit≤ tt)
    (short_if (row == 9) _ _ (lit≤ tt) (short_if (row == 10) _ _ (lit≤ tt) (lit≤ tt))))))))))

-- PARTS OF PLANS

pub refused_bounded : (o : Option ℕ) (actions puts : ℕ) (rest : Plan) → 0 < actions → IsBounded actions puts rest → IsBounded actions puts (refused_or o rest)
refused_bounded None actions puts rest h k = k
refused_bounded (Some row) actions puts rest h k = (h, refusal_length row)

pub bounded_if : (b : Bool) (actions puts : ℕ) (p q : Plan) → IsBounded actions puts p → IsBounded actions puts q → IsBounded actions puts (if b then p else q)
bounded_if true actions puts p q h k = h
bounded_if false actions puts p q h k = k

pub closing_length : (booking : ℕ) (closing : Closing) → booking < 2 ^ 32 → length (place.closing_text booking closing) ≤ 48
closing_length booking NoStock h = lit≤ tt
closing_length booking Declined h = lit≤ tt
closing_length booking Cancelled h = one_part (codes "cancelled") (shown booking) 9 11 (lit≤ tt) (wide_length booking h) (lit≤ tt)

pub clears_bounded : (booking : ℕ) (closing : Closing) (actions puts : ℕ) → booking < 2 ^ 32 → 3 < actions → 2 < puts
    → IsBounded actions puts (place.clears booking closing)
clears_bounded booking closing actions puts h a p = (
  omega arith,
  (
    omega arith,
    (
      (lit< tt, h),
      (
        lit< tt,
        (
          omega arith,
          (
            omega arith,
            (
              (lit< tt, h),
              (
                lit< tt,
                (
                  omega arith,
                  (
                    omega arith,
                    (
                      (lit< tt, h),
                      (
                        lit< tt,
                        (omega arith, closing_length booking closing h),
                      ),
                    ),
                  ),
                ),
              ),
            ),
          ),
        ),
      ),
    ),
  ),
)

pub releases_bounded : (trip qty stage actions puts : ℕ) → trip < 2 ^ 32 → qty < 2 ^ 32 → 1 ≤ stage → stage ≤ 3
    → 0 < actions → IsBounded actions puts (place.releases trip qty stage)
releases_bounded trip qty stage actions puts t q low high a =
    (a, (tt, (low, (high, two_parts (codes "release") (shown trip) (shown qty) 7 11 11 (lit≤ tt) (wide_length trip t) (wide_length qty q) (lit≤ tt)))))
