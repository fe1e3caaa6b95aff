-- Replicas that run a job in other orders.
use Rattle.std.proofs.Common.{◌≡◌, refl, [], Some}
use Rattle.std.specs.Fmt.{digits}
use Rattle.aeg_base.specs.Numbers.{checked, number_at, with_number}
use Rattle.aeg_base.specs.Locks.{no_locks}
use Rattle.exec_model.specs.Jobs.{run_job}
use Rattle.log_values.specs.Fields.{backend_at, stage_at}
use Rattle.log_values.specs.Outcomes.{outcome_at, all_pairs_at, all_ends_at, pairs_at, pair_at, ending_at}
use Rattle.aeg_wire.specs.Fields.{text_at}
use Rattle.aeg_wire.specs.Formats.{list_at}
use Rattle.worked_runs.proofs.Playing.{◌↵◌, later_played}

-- two replicas run it in opposite orders, so the round is serial
opposite_orders_make_serial : later_played 200
    ("tiers 1 depth 1" ↵ "lead m0" ↵ "flow" ↵ "submit 1 open 1 5 10 3" ↵ "submit 2 open 2 5 10 3" ↵ "submit 3 open 3 1 10 0" ↵ "calm" ↵
    "submit 1 book 1 1" ↵ "submit 2 book 2 1" ↵ "flow" ↵ "offer m0" ↵ "flow" ↵ "work m0 by 0x13 1x7" ↵ "work m1 by 1x13 0x7" ↵ "flow" ↵
    "offer m0" ↵ "flow" ↵ [])
    ≡ Some ("exec m0 0 steps 0x5 1x5 2x5 order 0 1 2 redo 0" ↵ "exec m1 0 steps 0x5 1x5 2x5 order 0 1 2 redo 0" ↵
    "exec m2 0 steps 0x5 1x5 2x5 order 0 1 2 redo 0" ↵ "verdict 0 commit order 0 1 2" ↵ "start 1.1 0 open 1 5 10 3" ↵
    "start 2.1 0 open 2 5 10 3" ↵ "start 3.1 0 open 3 1 10 0" ↵ "reply 1.1 opened 1" ↵ "reply 2.1 opened 2" ↵ "reply 3.1 opened 3" ↵
    "exec m0 1 steps 0x13 1x7 order 0 1 redo 0" ↵ "exec m1 1 steps 1x13 0x7 order 1 0 redo 0" ↵ "verdict 1 serial" ↵ "start 1.2 1 book 1 1" ↵
    "start 2.2 0 book 2 1" ↵ "reply 2.2 refused 5 LinkFull" ↵ "log mid 4" ↵ "log inv 0" ↵ "log pay 0" ↵ "packets 94" ↵ [])
unfolding digits checked number_at with_number no_locks run_job
    outcome_at all_pairs_at all_ends_at pairs_at pair_at ending_at backend_at stage_at text_at list_at
opposite_orders_make_serial = refl

-- a segment finds a key lock held, and the group is run again in job order
conflict_reruns_the_group : later_played 200
    ("tiers 1 depth 1" ↵ "lead m0" ↵ "flow" ↵ "submit 1 open 1 5 10 3" ↵ "submit 2 open 2 5 10 3" ↵ "submit 3 open 3 1 10 0" ↵ "calm" ↵
    "submit 1 book 1 1" ↵ "submit 2 book 2 1" ↵ "flow" ↵ "offer m0" ↵ "flow" ↵ "work m0 by 0x6 1x6" ↵ "work m1 by 0x13 1x7" ↵ "flow" ↵
    "offer m0" ↵ "flow" ↵ [])
    ≡ Some ("exec m0 0 steps 0x5 1x5 2x5 order 0 1 2 redo 0" ↵ "exec m1 0 steps 0x5 1x5 2x5 order 0 1 2 redo 0" ↵
    "exec m2 0 steps 0x5 1x5 2x5 order 0 1 2 redo 0" ↵ "verdict 0 commit order 0 1 2" ↵ "start 1.1 0 open 1 5 10 3" ↵
    "start 2.1 0 open 2 5 10 3" ↵ "start 3.1 0 open 3 1 10 0" ↵ "reply 1.1 opened 1" ↵ "reply 2.1 opened 2" ↵ "reply 3.1 opened 3" ↵
    "exec m0 1 steps 0x6 1x5 order 0 1 redo 1" ↵ "exec m1 1 steps 0x13 1x7 order 0 1 redo 0" ↵ "verdict 1 commit order 0 1" ↵
    "start 1.2 1 book 1 1" ↵ "start 2.2 0 book 2 1" ↵ "reply 2.2 refused 5 LinkFull" ↵ "log mid 4" ↵ "log inv 0" ↵ "log pay 0" ↵ "packets 94" ↵ [])
unfolding digits checked number_at with_number no_locks run_job
    outcome_at all_pairs_at all_ends_at pairs_at pair_at ending_at backend_at stage_at text_at list_at
conflict_reruns_the_group = refl

-- two of three have one outcome
majority_outvotes_one_replica : later_played 200
    ("tiers 1 depth 1" ↵ "lead m0" ↵ "flow" ↵ "submit 1 open 1 5 10 3" ↵ "submit 2 open 2 5 10 3" ↵ "submit 3 open 3 1 10 0" ↵ "calm" ↵
    "submit 1 book 1 1" ↵ "submit 2 book 2 1" ↵ "flow" ↵ "offer m0" ↵ "flow" ↵ "work m0" ↵ "work m1" ↵ "work m2 by 1x13 0x7" ↵ "flow" ↵
    "offer m0" ↵ "flow" ↵ [])
    ≡ Some ("exec m0 0 steps 0x5 1x5 2x5 order 0 1 2 redo 0" ↵ "exec m1 0 steps 0x5 1x5 2x5 order 0 1 2 redo 0" ↵
    "exec m2 0 steps 0x5 1x5 2x5 order 0 1 2 redo 0" ↵ "verdict 0 commit order 0 1 2" ↵ "start 1.1 0 open 1 5 10 3" ↵
    "start 2.1 0 open 2 5 10 3" ↵ "start 3.1 0 open 3 1 10 0" ↵ "reply 1.1 opened 1" ↵ "reply 2.1 opened 2" ↵ "reply 3.1 opened 3" ↵
    "exec m0 1 steps 0x13 1x7 order 0 1 redo 0" ↵ "exec m1 1 steps 0x13 1x7 order 0 1 redo 0" ↵ "exec m2 1 steps 1x13 0x7 order 1 0 redo 0" ↵
    "verdict 1 commit order 0 1" ↵ "start 1.2 1 book 1 1" ↵ "start 2.2 0 book 2 1" ↵ "reply 2.2 refused 5 LinkFull" ↵ "log mid 4" ↵ "log inv 0" ↵
    "log pay 0" ↵ "packets 96" ↵ [])
unfolding digits checked number_at with_number no_locks run_job
    outcome_at all_pairs_at all_ends_at pairs_at pair_at ending_at backend_at stage_at text_at list_at
majority_outvotes_one_replica = refl

-- a new leader whose own tokens say serial is told of a Commit by a promise
reported_commit_wins : later_played 200
    ("tiers 1 depth 1" ↵ "lead m0" ↵ "flow" ↵ "submit 1 open 1 5 10 3" ↵ "submit 2 open 2 5 10 3" ↵ "submit 3 open 3 1 10 0" ↵ "calm" ↵
    "submit 1 book 1 1" ↵ "submit 2 book 2 1" ↵ "flow" ↵ "offer m0" ↵ "flow" ↵ "work m0 by 0x13 1x7" ↵ "work m1 by 1x13 0x7" ↵
    "work m2 by 0x13 1x7" ↵ "deliver 71" ↵ "deliver 67" ↵ "offer m0" ↵ "crash m0" ↵ "restart m0" ↵ "lead m1" ↵ "deliver 78" ↵ "deliver 80" ↵
    "offer m1" ↵ "deliver 81" ↵ "deliver 84" ↵ "deliver 87" ↵ "deliver 92" ↵ [])
    ≡ Some ("exec m0 0 steps 0x5 1x5 2x5 order 0 1 2 redo 0" ↵ "exec m1 0 steps 0x5 1x5 2x5 order 0 1 2 redo 0" ↵
    "exec m2 0 steps 0x5 1x5 2x5 order 0 1 2 redo 0" ↵ "verdict 0 commit order 0 1 2" ↵ "start 1.1 0 open 1 5 10 3" ↵
    "start 2.1 0 open 2 5 10 3" ↵ "start 3.1 0 open 3 1 10 0" ↵ "reply 1.1 opened 1" ↵ "reply 2.1 opened 2" ↵ "reply 3.1 opened 3" ↵
    "exec m0 1 steps 0x13 1x7 order 0 1 redo 0" ↵ "exec m1 1 steps 1x13 0x7 order 1 0 redo 0" ↵ "exec m2 1 steps 0x13 1x7 order 0 1 redo 0" ↵
    "verdict 1 commit order 0 1" ↵ "start 1.2 1 book 1 1" ↵ "start 2.2 0 book 2 1" ↵ "reply 2.2 refused 5 LinkFull" ↵ "log mid 4" ↵ "log inv 0" ↵
    "log pay 0" ↵ "packets 93" ↵ [])
unfolding digits checked number_at with_number no_locks run_job
    outcome_at all_pairs_at all_ends_at pairs_at pair_at ending_at backend_at stage_at text_at list_at
reported_commit_wins = refl
