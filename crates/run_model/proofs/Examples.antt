-- Two worked runs over the world, computed, with the booking service: a client opens a trip and looks at a booking on one
-- replica, and one books on three replicas a tier.
use Rattle.std.proofs.Common.{◌≡◌, ℕ, true, [], ◌∷◌, ◌++◌, refl}
use Rattle.std.specs.Prelude.{codes}
use Rattle.std.specs.Fmt.{digits}
use Rattle.aeg_base.specs.Numbers.{checked, number_at, with_number}
use Rattle.aeg_base.specs.Locks.{no_locks}
use Rattle.aeg_base.specs.declared.names.Tier.TheVariants.{Mid, Inv, Pay}
use Rattle.server_model.specs.declared.history.Hist.TheVariants.{Start, Serve, Resume}
use Rattle.exec_model.specs.Jobs.{run_job}
use Rattle.log_values.specs.Fields.{backend_at, stage_at}
use Rattle.log_values.specs.Outcomes.{outcome_at, all_pairs_at, all_ends_at, pairs_at, pair_at, ending_at}
use Rattle.aeg_wire.specs.Fields.{text_at}
use Rattle.aeg_wire.specs.Formats.{list_at}
use Rattle.run_model.specs.declared.trace.Fared.TheVariants.{Fine}
use Rattle.run_model.specs.declared.trace.TraceEvent.TheVariants.{Submit, Lead}
use Rattle.run_model.proofs.Driving.{At, begun, on, calm, node, ups, came_to, request, reply}

-- ONE REPLICA

abbrev opened_by_one : ℕ → At
opened_by_one turns = calm 0 turns (on 0 begun (ups 0 ++ Lead (node Mid 0) Fine ∷ Submit 1 (codes "open 1 5 10 0") ∷ []))

abbrev looked : ℕ → At
looked turns = calm 0 turns (on 0 (opened_by_one 3) (Submit 1 (codes "look 5") ∷ []))

open_and_look_on_one_replica : came_to (looked 3) (record {
  hist = (Start (request 1) 0, codes "open 1 5 10 0") ∷ (Start (request 2) 0, codes "look 5") ∷ [];
  told = reply 1 (codes "opened 1") ∷ reply 2 (codes "refused 9 NoBooking") ∷ [];
  mid = 4;
  inv = 0;
  pay = 0;
  packets = 8;
}) ≡ true
unfolding digits checked number_at with_number no_locks run_job outcome_at all_pairs_at all_ends_at pairs_at pair_at
    ending_at backend_at stage_at text_at list_at
open_and_look_on_one_replica = refl

-- THREE REPLICAS A TIER

abbrev led : ℕ → At
led turns = calm 1 turns (on 1 begun (ups 1 ++ Lead (node Mid 0) Fine ∷ Lead (node Inv 0) Fine ∷ Lead (node Pay 0) Fine ∷ []))

abbrev opened : ℕ → At
opened turns = calm 1 turns (on 1 (led 1) (Submit 1 (codes "open 1 5 10 0") ∷ []))

abbrev booked : ℕ → At
booked turns = calm 1 turns (on 1 (opened 3) (Submit 1 (codes "book 1 2") ∷ []))

ordinary_use : came_to (booked 13) (record {
  hist = (Start (request 1) 0, codes "open 1 5 10 0") ∷ (Start (request 2) 1, codes "book 1 2") ∷ (Serve Inv 1, [])
      ∷ (Resume (request 2) 1, []) ∷ (Serve Pay 1, []) ∷ (Resume (request 2) 0, []) ∷ [];
  told = reply 1 (codes "opened 1") ∷ reply 2 (codes "booked 17") ∷ [];
  mid = 8;
  inv = 1;
  pay = 1;
  packets = 206;
}) ≡ true
unfolding digits checked number_at with_number no_locks run_job outcome_at all_pairs_at all_ends_at pairs_at pair_at
    ending_at backend_at stage_at text_at list_at
ordinary_use = refl
