-- Tiers of which nodes are down or gone. The first two stories stand in `examples/`, too.
use Rattle.std.proofs.Common.{◌≡◌, refl, [], Some}
use Rattle.std.specs.Fmt.{digits}
use Rattle.aeg_base.specs.Numbers.{checked, number_at, with_number}
use Rattle.aeg_base.specs.Locks.{no_locks}
use Rattle.exec_model.specs.Jobs.{run_job}
use Rattle.log_values.specs.Fields.{backend_at, stage_at}
use Rattle.log_values.specs.Outcomes.{outcome_at, all_pairs_at, all_ends_at, pairs_at, pair_at, ending_at}
use Rattle.aeg_wire.specs.Fields.{text_at}
use Rattle.aeg_wire.specs.Formats.{list_at}
use Rattle.worked_runs.proofs.Playing.{◌↵◌, later_played, played}

-- three of five are a majority, and a late node asks
five_nodes_two_down : played 100
    ("tiers 2 depth 1" ↵ "crash m3" ↵ "crash m4" ↵ "lead m0" ↵ "offer m0" ↵ "deliver 0" ↵ "deliver 4" ↵ "offer m0" ↵ "deliver 1" ↵ "deliver 5" ↵
    "submit 1 open 1 5 10 0" ↵ "deliver 6" ↵ "offer m0" ↵ "deliver 11" ↵ "deliver 15" ↵ "deliver 20" ↵ "offer m0" ↵ "deliver 12" ↵ "deliver 25" ↵
    "offer m0" ↵ "restart m3" ↵ "retry m3" ↵ "deliver 30" ↵ "deliver 34" ↵ "lose" ↵ "lead m3" ↵ "flow" ↵ "offer m3" ↵ [])
    ≡ Some ("idle m0 no-promises 1" ↵ "idle m0 no-promises 2" ↵ "idle m0 in-flight 0" ↵ "idle m0 no-tokens 0" ↵ "idle m3 no-tokens 0" ↵ "log mid 1" ↵
    "log inv 0" ↵ "log pay 0" ↵ "packets 43" ↵ [])
unfolding digits checked number_at with_number
five_nodes_two_down = refl

-- two of three go on, and the last one alone chooses nothing
wiped_minority : played 100
    ("tiers 1 depth 1" ↵ "lead m0" ↵ "flow" ↵ "submit 1 open 1 5 10 0" ↵ "flow" ↵ "wipe m2" ↵ "offer m0" ↵ "flow" ↵ "offer m0" ↵ "lead m2" ↵
    "restart m2" ↵ "deliver 8" ↵ "wipe m1" ↵ "lead m0" ↵ "flow" ↵ "offer m0" ↵ [])
    ≡ Some ("idle m0 no-tokens 0" ↵ "gone m2" ↵ "gone m2" ↵ "lost 8" ↵ "idle m0 no-promises 1" ↵ "log mid 1" ↵ "log inv 0" ↵ "log pay 0" ↵
    "packets 17" ↵ [])
unfolding digits checked number_at with_number
wiped_minority = refl

-- a node that holds an answer is wiped, and another holder tells a third
holder_outlives_a_wiped_replica : later_played 400
    ("tiers 1 depth 1" ↵ "lead m0" ↵ "lead i0" ↵ "flow" ↵ "crash m2" ↵ "submit 1 open 1 5 10 0" ↵ "flow" ↵ "offer m0" ↵ "flow" ↵ "work m0" ↵
    "work m1" ↵ "flow" ↵ "offer m0" ↵ "flow" ↵ "submit 1 book 1 2" ↵ "flow" ↵ "offer m0" ↵ "flow" ↵ "work m0" ↵ "work m1" ↵ "flow" ↵ "offer m0" ↵
    "flow" ↵ "offer i0" ↵ "flow" ↵ "retry m0" ↵ "retry m1" ↵ "flow" ↵ "offer i0" ↵ "flow" ↵ "wipe m0" ↵ "restart m2" ↵ "retry m2" ↵ "flow" ↵
    "lead m1" ↵ "flow" ↵ "offer m1" ↵ "flow" ↵ "work m2" ↵ "retry m1" ↵ "flow" ↵ "work m2" ↵ [])
    ≡ Some ("exec m0 0 steps 0x5 order 0 redo 0" ↵ "exec m1 0 steps 0x5 order 0 redo 0" ↵ "verdict 0 commit order 0" ↵ "start 1.1 0 open 1 5 10 0" ↵
    "reply 1.1 opened 1" ↵ "exec m0 1 steps 0x10 order 0 redo 0" ↵ "exec m1 1 steps 0x10 order 0 redo 0" ↵ "verdict 1 commit order 0" ↵
    "start 1.2 1 book 1 2" ↵ "serve inv 1" ↵ "idle m2 no-answer inv 1" ↵ "exec m2 2 steps 0x2 order 0 redo 0" ↵ "log mid 5" ↵ "log inv 2" ↵
    "log pay 0" ↵ "packets 147" ↵ [])
unfolding digits checked number_at with_number no_locks run_job
    outcome_at all_pairs_at all_ends_at pairs_at pair_at ending_at backend_at stage_at text_at list_at
holder_outlives_a_wiped_replica = refl
