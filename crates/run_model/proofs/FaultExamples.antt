-- Worked runs with power cuts, short frames, crashes, wipes and interleaved segments, computed with the booking service.
use Rattle.std.proofs.Common.{◌≡◌, ℕ, true, false, List, [], ◌∷◌, ◌++◌, refl}
use Rattle.std.specs.Prelude.{Bool, codes}
use Rattle.std.specs.Fmt.{digits}
use Rattle.aeg_base.specs.Numbers.{checked, number_at, with_number}
use Rattle.aeg_base.specs.Locks.{no_locks}
use Rattle.aeg_base.specs.declared.names.End.TheVariants.{Node}
use Rattle.aeg_base.specs.declared.names.Tier.TheVariants.{Inv}
use Rattle.server_model.specs.History.{History}
use Rattle.server_model.specs.declared.history.Hist.TheVariants.{Start, Serve}
use Rattle.exec_model.specs.Jobs.{run_job}
use Rattle.log_values.specs.declared.entry.Entry.{Entry}
use Rattle.log_values.specs.Fields.{backend_at, stage_at}
use Rattle.log_values.specs.Outcomes.{outcome_at, all_pairs_at, all_ends_at, pairs_at, pair_at, ending_at}
use Rattle.aeg_wire.specs.Fields.{text_at}
use Rattle.aeg_wire.specs.Formats.{list_at}
use Rattle.run_model.specs.declared.trace.Fared.TheVariants.{Fine, Cut}
use Rattle.run_model.specs.declared.trace.Found.TheVariants.{Reads}
use Rattle.run_model.specs.declared.trace.TraceEvent.TheVariants.{Submit, Deliver, Short, Lead, Offer, Work, Retry, Crash, Restart, Wipe}
use Rattle.run_model.proofs.Driving.{At, begun, on, flow, flows, node, m, ups, Sums, came_to, request, reply}

abbrev came : ℕ → ℕ → ℕ → List Entry → History → Sums
came mid inv packets told hist = record { hist = hist; told = told; mid = mid; inv = inv; pay = 0; packets = packets }

-- A POWER CUT

-- m1 goes down at the device call of its acceptance, comes back, and m2 leads
abbrev cut_at : ℕ → Bool → At
cut_at nth keep = on 1 (flows 1 (Lead (m 0) Fine ∷ []) (on 1 begun (ups 1)))
    (Submit 1 (codes "open 1 5 10 0") ∷ Deliver 4 Fine ∷ Offer (m 0) Fine ∷ Deliver 7 (Cut nth keep) ∷ Restart (m 1) (Reads 0)
    ∷ Lead (m 2) Fine ∷ Deliver 13 Fine ∷ Deliver 14 Fine ∷ Offer (m 2) Fine ∷ [])

-- the second call: the record is gone, and m2 has nothing to offer
cut_before_the_record : came_to (cut_at 2 true) (came 0 0 15 [] []) ≡ true
unfolding digits checked number_at with_number no_locks run_job outcome_at all_pairs_at all_ends_at pairs_at pair_at
    ending_at backend_at stage_at text_at list_at
cut_before_the_record = refl

-- the third with what was written: m1 reports what it accepted, and m2 offers it
cut_that_keeps : came_to (cut_at 3 true) (came 0 0 20 [] []) ≡ true
unfolding digits checked number_at with_number no_locks run_job outcome_at all_pairs_at all_ends_at pairs_at pair_at
    ending_at backend_at stage_at text_at list_at
cut_that_keeps = refl

cut_that_drops : came_to (cut_at 3 false) (came 0 0 15 [] []) ≡ true
unfolding digits checked number_at with_number no_locks run_job outcome_at all_pairs_at all_ends_at pairs_at pair_at
    ending_at backend_at stage_at text_at list_at
cut_that_drops = refl

cut_after_all : came_to (cut_at 4 true) (came 0 0 20 [] []) ≡ true
unfolding digits checked number_at with_number no_locks run_job outcome_at all_pairs_at all_ends_at pairs_at pair_at
    ending_at backend_at stage_at text_at list_at
cut_after_all = refl

-- A WIPED HOLDER

abbrev holder_wiped : ℕ → At
holder_wiped fuel =
    on 1 (flow 1 fuel (on 1
    (flows 1 (Offer (m 1) Fine ∷ [])
    (flows 1 (Lead (m 1) Fine ∷ [])
    (flows 1 (Wipe (m 0) ∷ Restart (m 2) (Reads 0) ∷ Retry (Node (m 2)) ∷ [])
    (flows 1 (Offer (node Inv 0) Fine ∷ []) (flows 1 (Retry (Node (m 0)) ∷ Retry (Node (m 1)) ∷ [])
    (flows 1 (Offer (node Inv 0) Fine ∷ [])
    (flows 1 (Offer (m 0) Fine ∷ [])
    (flows 1 (Work (m 0) [] ∷ Work (m 1) [] ∷ []) (flows 1 (Offer (m 0) Fine ∷ []) (flows 1 (Submit 1 (codes "book 1 2") ∷ [])
    (flows 1 (Offer (m 0) Fine ∷ [])
    (flows 1 (Work (m 0) [] ∷ Work (m 1) [] ∷ [])
    (flows 1 (Offer (m 0) Fine ∷ []) (flows 1 (Crash (m 2) ∷ Submit 1 (codes "open 1 5 10 0") ∷ [])
    (flows 1 (Lead (m 0) Fine ∷ Lead (node Inv 0) Fine ∷ []) (on 1 begun (ups 1)))))))))))))))))
    (Work (m 2) [] ∷ Retry (Node (m 1)) ∷ []))) (Work (m 2) [] ∷ [])

holder_outlives_a_wiped_replica : came_to (holder_wiped 300)
    (came 5 2 147 (reply 1 (codes "opened 1") ∷ [])
    ((Start (request 1) 0, codes "open 1 5 10 0") ∷ (Start (request 2) 1, codes "book 1 2") ∷ (Serve Inv 1, []) ∷ [])) ≡ true
unfolding digits checked number_at with_number no_locks run_job outcome_at all_pairs_at all_ends_at pairs_at pair_at
    ending_at backend_at stage_at text_at list_at
holder_outlives_a_wiped_replica = refl

-- A SHORT FRAME

-- a frame of 13 bytes is refused below its length, and is whole with it
abbrev shortened : ℕ → At
shortened bytes = on 1 begun (ups 1 ++ Lead (m 0) Fine ∷ Short 0 bytes Fine ∷ [])

cut_short : came_to (shortened 12) (came 0 0 2 [] []) ≡ true
unfolding digits checked number_at with_number no_locks run_job outcome_at all_pairs_at all_ends_at pairs_at pair_at
    ending_at backend_at stage_at text_at list_at
cut_short = refl

whole_frame : came_to (shortened 13) (came 0 0 3 [] []) ≡ true
unfolding digits checked number_at with_number no_locks run_job outcome_at all_pairs_at all_ends_at pairs_at pair_at
    ending_at backend_at stage_at text_at list_at
whole_frame = refl
