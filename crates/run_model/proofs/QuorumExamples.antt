-- Worked runs in which a quorum decides, computed with the booking service: a Commit that a promise reports, copies of a
-- call, holders of an answer.
use Rattle.std.proofs.Common.{◌≡◌, ℕ, true, false, List, [], ◌∷◌, ◌++◌, refl}
use Rattle.std.specs.Prelude.{codes}
use Rattle.std.specs.Fmt.{digits}
use Rattle.aeg_base.specs.Numbers.{checked, number_at, with_number}
use Rattle.aeg_base.specs.Locks.{no_locks}
use Rattle.aeg_base.specs.declared.names.Tier.TheVariants.{Inv}
use Rattle.server_model.specs.declared.history.Hist.TheVariants.{Start, Serve}
use Rattle.exec_model.specs.Jobs.{run_job}
use Rattle.log_values.specs.Fields.{backend_at, stage_at}
use Rattle.log_values.specs.Outcomes.{outcome_at, all_pairs_at, all_ends_at, pairs_at, pair_at, ending_at}
use Rattle.aeg_wire.specs.Fields.{text_at}
use Rattle.aeg_wire.specs.Formats.{list_at}
use Rattle.run_model.specs.declared.trace.Fared.TheVariants.{Fine}
use Rattle.run_model.specs.declared.trace.Found.TheVariants.{Reads}
use Rattle.run_model.specs.declared.trace.TraceEvent.{TraceEvent}
use Rattle.run_model.specs.declared.trace.TraceEvent.TheVariants.{Submit, Deliver, Lead, Offer, Work, Crash, Restart}
use Rattle.run_model.proofs.Driving.{At, begun, on, flows, calm, node, m, ups, Sums, came_to, request, reply}
use Rattle.run_model.proofs.OrderExamples.{linked_trips, first_books, second_books, one_booked, is_serial}

abbrev takes : List ℕ → List TraceEvent
takes [] = []
takes (k ∷ ks) = Deliver k Fine ∷ takes ks

-- A REPORTED COMMIT

-- m0's Commit is accepted by itself alone, m1 leads next, and its own tokens say Serial
abbrev second_leader : ℕ → At
second_leader turns = on 1 (linked_trips turns)
    (Work (m 0) first_books ∷ Work (m 1) second_books ∷ Work (m 2) first_books ∷ takes (71 ∷ 67 ∷ [])
    ++ Offer (m 0) Fine ∷ Crash (m 0) ∷ Restart (m 0) (Reads 0) ∷ Lead (m 1) Fine
    ∷ takes (78 ∷ 80 ∷ []) ++ Offer (m 1) Fine ∷ takes (81 ∷ 84 ∷ 87 ∷ 92 ∷ []))

reported_commit_wins : came_to (second_leader 3) (one_booked 93) ≡ true
unfolding digits checked number_at with_number no_locks run_job outcome_at all_pairs_at all_ends_at pairs_at pair_at
    ending_at backend_at stage_at text_at list_at
reported_commit_wins = refl

it_is_no_serial : is_serial (second_leader 3) ≡ false
unfolding digits checked number_at with_number no_locks run_job outcome_at all_pairs_at all_ends_at pairs_at pair_at
    ending_at backend_at stage_at text_at list_at
it_is_no_serial = refl

-- COPIES OF A CALL, AND HOLDERS OF ITS ANSWER

abbrev booking_decided : ℕ → At
booking_decided turns =
    on 1 (flows 1 (Work (m 0) [] ∷ Work (m 1) [] ∷ []) (flows 1 (Offer (m 0) Fine ∷ []) (flows 1 (Submit 1 (codes "book 1 2") ∷ [])
    (calm 1 turns (on 1 (calm 1 turns (on 1 begun (ups 1 ++ Lead (m 0) Fine ∷ Lead (node Inv 0) Fine ∷ [])))
    (Submit 1 (codes "open 1 5 10 0") ∷ [])))))) (Offer (m 0) Fine ∷ takes (60 ∷ 62 ∷ 65 ∷ 63 ∷ 66 ∷ []))

-- i0 has nothing to offer before it has a copy of each of two nodes
abbrev offers_thrice : ℕ → At
offers_thrice turns = on 1 (booking_decided turns) (takes (68 ∷ []) ++ Offer (node Inv 0) Fine ∷ takes (68 ∷ [])
    ++ Offer (node Inv 0) Fine ∷ takes (71 ∷ []) ++ Offer (node Inv 0) Fine ∷ takes (74 ∷ []))

abbrev one_served : ℕ → ℕ → Sums
one_served mid packets = record {
  hist = (Start (request 1) 0, codes "open 1 5 10 0") ∷ (
    Start (request 2) 1,
    codes "book 1 2",
  ) ∷ (Serve Inv 1, []) ∷ [];
  told = reply 1 (codes "opened 1") ∷ [];
  mid = mid;
  inv = 1;
  pay = 0;
  packets = packets;
}

one_copy_of_a_call_is_not_enough : came_to (offers_thrice 3) (one_served 4 82) ≡ true
unfolding digits checked number_at with_number no_locks run_job outcome_at all_pairs_at all_ends_at pairs_at pair_at
    ending_at backend_at stage_at text_at list_at
one_copy_of_a_call_is_not_enough = refl

-- m0 holds the answer, and runs the next round only once it is told that m1 holds it too
abbrev works_at_last : ℕ → At
works_at_last turns = on 1 (offers_thrice turns) (takes (76 ∷ 79 ∷ []) ++ Offer (m 0) Fine ∷ takes (85 ∷ 87 ∷ 90 ∷ [])
    ++ Work (m 0) [] ∷ takes (82 ∷ []) ++ Work (m 0) [] ∷ takes (93 ∷ []) ++ Work (m 0) [] ∷ takes (95 ∷ []) ++ Work (m 0) [] ∷ [])

answer_waits_for_a_second_holder : came_to (works_at_last 3) (one_served 5 99) ≡ true
unfolding digits checked number_at with_number no_locks run_job outcome_at all_pairs_at all_ends_at pairs_at pair_at
    ending_at backend_at stage_at text_at list_at
answer_waits_for_a_second_holder = refl
