-- Bookings with nested calls.
use Rattle.std.proofs.Common.{◌≡◌, refl, [], Some}
use Rattle.std.specs.Fmt.{digits}
use Rattle.aeg_base.specs.Numbers.{checked, number_at, with_number}
use Rattle.aeg_base.specs.Locks.{no_locks}
use Rattle.exec_model.specs.Jobs.{run_job}
use Rattle.log_values.specs.Fields.{backend_at, stage_at}
use Rattle.log_values.specs.Outcomes.{outcome_at, all_pairs_at, all_ends_at, pairs_at, pair_at, ending_at}
use Rattle.aeg_wire.specs.Fields.{text_at}
use Rattle.aeg_wire.specs.Formats.{list_at}
use Rattle.worked_runs.proofs.Playing.{◌↵◌, later_played}

-- three replicas a tier
ordinary_use : later_played 400
    ("tiers 1 depth 1" ↵ "lead m0" ↵ "lead i0" ↵ "lead p0" ↵ "calm" ↵ "submit 1 open 1 5 10 0" ↵ "calm" ↵ "submit 1 book 1 2" ↵ "calm" ↵ [])
    ≡ Some ("exec m0 0 steps 0x5 order 0 redo 0" ↵ "exec m1 0 steps 0x5 order 0 redo 0" ↵ "exec m2 0 steps 0x5 order 0 redo 0" ↵
    "verdict 0 commit order 0" ↵ "start 1.1 0 open 1 5 10 0" ↵ "reply 1.1 opened 1" ↵ "exec m0 1 steps 0x10 order 0 redo 0" ↵
    "exec m1 1 steps 0x10 order 0 redo 0" ↵ "exec m2 1 steps 0x10 order 0 redo 0" ↵ "verdict 1 commit order 0" ↵ "start 1.2 1 book 1 2" ↵
    "serve inv 1" ↵ "exec m0 2 steps 0x2 order 0 redo 0" ↵ "exec m1 2 steps 0x2 order 0 redo 0" ↵ "exec m2 2 steps 0x2 order 0 redo 0" ↵
    "verdict 2 commit order 0" ↵ "resume 1.2 1" ↵ "serve pay 1" ↵ "exec m0 3 steps 0x2 order 0 redo 0" ↵ "exec m1 3 steps 0x2 order 0 redo 0" ↵
    "exec m2 3 steps 0x2 order 0 redo 0" ↵ "verdict 3 commit order 0" ↵ "resume 1.2 0" ↵ "reply 1.2 booked 17" ↵ "log mid 8" ↵ "log inv 1" ↵
    "log pay 1" ↵ "packets 206" ↵ [])
unfolding digits checked number_at with_number no_locks run_job
    outcome_at all_pairs_at all_ends_at pairs_at pair_at ending_at backend_at stage_at text_at list_at
ordinary_use = refl

-- a payment is declined, the seats are released, and another client books them
declined_payment : later_played 200
    ("tiers 0 depth 1" ↵ "lead m0" ↵ "lead i0" ↵ "lead p0" ↵ "submit 1 open 1 5 3000 0" ↵ "calm" ↵ "submit 1 book 1 4" ↵ "calm" ↵
    "submit 2 book 1 3" ↵ "calm" ↵ [])
    ≡ Some ("exec m0 0 steps 0x5 order 0 redo 0" ↵ "verdict 0 commit order 0" ↵ "start 1.1 0 open 1 5 3000 0" ↵ "reply 1.1 opened 1" ↵
    "exec m0 1 steps 0x10 order 0 redo 0" ↵ "verdict 1 commit order 0" ↵ "start 1.2 1 book 1 4" ↵ "serve inv 1" ↵
    "exec m0 2 steps 0x2 order 0 redo 0" ↵ "verdict 2 commit order 0" ↵ "resume 1.2 1" ↵ "serve pay 1" ↵ "exec m0 3 steps 0x6 order 0 redo 0" ↵
    "verdict 3 commit order 0" ↵ "resume 1.2 2" ↵ "serve inv 2" ↵ "exec m0 4 steps 0x4 order 0 redo 0" ↵ "verdict 4 commit order 0" ↵
    "resume 1.2 0" ↵ "reply 1.2 refused 8 Declined" ↵ "exec m0 5 steps 0x10 order 0 redo 0" ↵ "verdict 5 commit order 0" ↵
    "start 2.1 3 book 1 3" ↵ "serve inv 3" ↵ "exec m0 6 steps 0x2 order 0 redo 0" ↵ "verdict 6 commit order 0" ↵ "resume 2.1 2" ↵ "serve pay 2" ↵
    "exec m0 7 steps 0x2 order 0 redo 0" ↵ "verdict 7 commit order 0" ↵ "resume 2.1 0" ↵ "reply 2.1 booked 2" ↵ "log mid 16" ↵ "log inv 3" ↵
    "log pay 2" ↵ "packets 37" ↵ [])
unfolding digits checked number_at with_number no_locks run_job
    outcome_at all_pairs_at all_ends_at pairs_at pair_at ending_at backend_at stage_at text_at list_at
declined_payment = refl

-- and what was declined can't be cancelled
cancel_of_a_declined_booking : later_played 200
    ("tiers 0 depth 1" ↵ "lead m0" ↵ "lead i0" ↵ "lead p0" ↵ "submit 1 open 1 5 3000 0" ↵ "calm" ↵ "submit 1 book 1 4" ↵ "calm" ↵
    "submit 2 book 1 3" ↵ "calm" ↵ "submit 1 cancel 17" ↵ "calm" ↵ [])
    ≡ Some ("exec m0 0 steps 0x5 order 0 redo 0" ↵ "verdict 0 commit order 0" ↵ "start 1.1 0 open 1 5 3000 0" ↵ "reply 1.1 opened 1" ↵
    "exec m0 1 steps 0x10 order 0 redo 0" ↵ "verdict 1 commit order 0" ↵ "start 1.2 1 book 1 4" ↵ "serve inv 1" ↵
    "exec m0 2 steps 0x2 order 0 redo 0" ↵ "verdict 2 commit order 0" ↵ "resume 1.2 1" ↵ "serve pay 1" ↵ "exec m0 3 steps 0x6 order 0 redo 0" ↵
    "verdict 3 commit order 0" ↵ "resume 1.2 2" ↵ "serve inv 2" ↵ "exec m0 4 steps 0x4 order 0 redo 0" ↵ "verdict 4 commit order 0" ↵
    "resume 1.2 0" ↵ "reply 1.2 refused 8 Declined" ↵ "exec m0 5 steps 0x10 order 0 redo 0" ↵ "verdict 5 commit order 0" ↵
    "start 2.1 3 book 1 3" ↵ "serve inv 3" ↵ "exec m0 6 steps 0x2 order 0 redo 0" ↵ "verdict 6 commit order 0" ↵ "resume 2.1 2" ↵ "serve pay 2" ↵
    "exec m0 7 steps 0x2 order 0 redo 0" ↵ "verdict 7 commit order 0" ↵ "resume 2.1 0" ↵ "reply 2.1 booked 2" ↵
    "exec m0 8 steps 0x4 order 0 redo 0" ↵ "verdict 8 commit order 0" ↵ "start 1.3 0 cancel 17" ↵ "reply 1.3 refused 9 NoBooking" ↵
    "log mid 18" ↵ "log inv 3" ↵ "log pay 2" ↵ "packets 41" ↵ [])
unfolding digits checked number_at with_number no_locks run_job
    outcome_at all_pairs_at all_ends_at pairs_at pair_at ending_at backend_at stage_at text_at list_at
cancel_of_a_declined_booking = refl
