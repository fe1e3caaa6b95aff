-- Worked runs whose nodes run a job in other orders, computed with the booking service; and a payment that is declined.
use Rattle.std.proofs.Common.{◌≡◌, ℕ, zero, suc, true, false, List, [], ◌∷◌, ◌++◌, refl, Option, Some, None}
use Rattle.std.specs.Prelude.{Bool, codes}
use Rattle.std.specs.Fmt.{digits}
use Rattle.aeg_base.specs.Numbers.{checked, number_at, with_number}
use Rattle.aeg_base.specs.Locks.{no_locks}
use Rattle.aeg_base.specs.declared.names.ReqId.{ReqId}
use Rattle.aeg_base.specs.declared.names.Tier.TheVariants.{Mid, Inv, Pay}
use Rattle.server_model.specs.declared.history.Hist.TheVariants.{Start, Serve, Resume}
use Rattle.exec_model.specs.Jobs.{run_job}
use Rattle.log_values.specs.declared.entry.Entry.{Entry}
use Rattle.log_values.specs.declared.mid_value.Verdict.{Verdict}
use Rattle.log_values.specs.declared.mid_value.Verdict.TheVariants.{Commit, Serial}
use Rattle.round_model.specs.After.{verdict_at}
use Rattle.log_values.specs.Fields.{backend_at, stage_at}
use Rattle.log_values.specs.Outcomes.{outcome_at, all_pairs_at, all_ends_at, pairs_at, pair_at, ending_at}
use Rattle.aeg_wire.specs.Fields.{text_at}
use Rattle.aeg_wire.specs.Formats.{list_at}
use Rattle.run_model.specs.declared.trace.Fared.TheVariants.{Fine}
use Rattle.run_model.specs.declared.trace.TraceEvent.{TraceEvent}
use Rattle.run_model.specs.declared.trace.TraceEvent.TheVariants.{Submit, Lead, Offer, Work}
use Rattle.run_model.proofs.Driving.{At, begun, on, flows, calm, node, m, ups, Sums, came_to}

abbrev who : ℕ → ℕ → ReqId
who client seq = record { client = client; seq = seq }

abbrev told_to : ℕ → ℕ → List ℕ → Entry
told_to client seq body = record { client = client; seq = seq; body = body }

-- TWO BOOKINGS FOR ONE LINKED SEAT

-- the trips are opened, and the batch of the two bookings is learned
abbrev pub linked_trips : ℕ → At
linked_trips turns =
    flows 1 (Offer (m 0) Fine ∷ []) (flows 1 (Submit 1 (codes "book 1 1") ∷ Submit 2 (codes "book 2 1") ∷ [])
    (calm 1 turns (on 1 (flows 1 (Lead (m 0) Fine ∷ []) (on 1 begun (ups 1)))
    (Submit 1 (codes "open 1 5 10 3") ∷ Submit 2 (codes "open 2 5 10 3") ∷ Submit 3 (codes "open 3 1 10 0") ∷ []))))

abbrev pub turns_of : ℕ → ℕ → List ℕ
turns_of segment zero = []
turns_of segment (suc n) = segment ∷ turns_of segment n

-- the first books before the second, and the other way round
abbrev pub first_books : List ℕ
first_books = turns_of 0 13 ++ turns_of 1 7

abbrev pub second_books : List ℕ
second_books = turns_of 1 13 ++ turns_of 0 7

abbrev decided : List TraceEvent → At
decided works = flows 1 (Offer (m 0) Fine ∷ []) (flows 1 works (linked_trips 3))

abbrev pub one_booked : ℕ → Sums
one_booked packets = record {
  hist = (Start (who 1 1) 0, codes "open 1 5 10 3") ∷ (Start (who 2 1) 0, codes "open 2 5 10 3") ∷ (
    Start (who 3 1) 0,
    codes "open 3 1 10 0",
  ) ∷ (Start (who 1 2) 1, codes "book 1 1") ∷ (Start (who 2 2) 0, codes "book 2 1") ∷ [];
  told = told_to 1 1 (codes "opened 1") ∷ told_to 2 1 (codes "opened 2") ∷ told_to 3 1 (codes "opened 3") ∷ told_to 2 2 (codes "refused 5 LinkFull") ∷ [];
  mid = 4;
  inv = 0;
  pay = 0;
  packets = packets;
}

opposite_orders_make_serial : came_to (decided (Work (m 0) first_books ∷ Work (m 1) second_books ∷ [])) (one_booked 94) ≡ true
unfolding digits checked number_at with_number no_locks run_job outcome_at all_pairs_at all_ends_at pairs_at pair_at
    ending_at backend_at stage_at text_at list_at
opposite_orders_make_serial = refl

abbrev pub serial_in : Option Verdict → Bool
serial_in None = false
serial_in (Some (Commit token order)) = false
serial_in (Some Serial) = true

abbrev pub is_serial : At → Bool
is_serial a = serial_in (verdict_at (a.world.logs Mid) 1)

serial_is_chosen : is_serial (decided (Work (m 0) first_books ∷ Work (m 1) second_books ∷ [])) ≡ true
unfolding digits checked number_at with_number no_locks run_job outcome_at all_pairs_at all_ends_at pairs_at pair_at
    ending_at backend_at stage_at text_at list_at
serial_is_chosen = refl

-- a segment finds a key lock held, and the group is run again in job order
conflict_reruns_the_group : came_to (decided (Work (m 0) (turns_of 0 6 ++ turns_of 1 6) ∷ Work (m 1) first_books ∷ [])) (one_booked 94) ≡ true
unfolding digits checked number_at with_number no_locks run_job outcome_at all_pairs_at all_ends_at pairs_at pair_at
    ending_at backend_at stage_at text_at list_at
conflict_reruns_the_group = refl

majority_outvotes_one_replica : came_to (decided (Work (m 0) [] ∷ Work (m 1) [] ∷ Work (m 2) second_books ∷ [])) (one_booked 96) ≡ true
unfolding digits checked number_at with_number no_locks run_job outcome_at all_pairs_at all_ends_at pairs_at pair_at
    ending_at backend_at stage_at text_at list_at
majority_outvotes_one_replica = refl

-- A PAYMENT THAT IS DECLINED

abbrev booked_twice : ℕ → At
booked_twice turns =
    calm 0 turns (on 0 (calm 0 turns
    (on 0 (calm 0 turns
    (on 0 begun (ups 0 ++ Lead (m 0) Fine ∷ Lead (node Inv 0) Fine ∷ Lead (node Pay 0) Fine
    ∷ Submit 1 (codes "open 1 5 3000 0") ∷ []))) (Submit 1 (codes "book 1 4") ∷ []))) (Submit 2 (codes "book 1 3") ∷ []))

-- its seats are released, and another client books them
declined_payment : came_to (booked_twice 16) (record {
  hist = (Start (who 1 1) 0, codes "open 1 5 3000 0") ∷ (Start (who 1 2) 1, codes "book 1 4") ∷ (Serve Inv 1, [])
      ∷ (Resume (who 1 2) 1, []) ∷ (Serve Pay 1, []) ∷ (Resume (who 1 2) 2, []) ∷ (Serve Inv 2, []) ∷ (Resume (who 1 2) 0, [])
      ∷ (Start (who 2 1) 3, codes "book 1 3") ∷ (Serve Inv 3, []) ∷ (Resume (who 2 1) 2, []) ∷ (Serve Pay 2, []) ∷ (Resume (who 2 1) 0, []) ∷ [];
  told = told_to 1 1 (codes "opened 1") ∷ told_to 1 2 (codes "refused 8 Declined") ∷ told_to 2 1 (codes "booked 2") ∷ [];
  mid = 16;
  inv = 3;
  pay = 2;
  packets = 37;
}) ≡ true
unfolding digits checked number_at with_number no_locks run_job outcome_at all_pairs_at all_ends_at pairs_at pair_at
    ending_at backend_at stage_at text_at list_at
declined_payment = refl
