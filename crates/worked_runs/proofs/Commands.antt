-- Commands and packets that nobody takes, and clients that send again. The first two stories stand in `examples/`, too.
use Rattle.std.proofs.Common.{◌≡◌, refl, [], Some}
use Rattle.std.specs.Fmt.{digits}
use Rattle.aeg_base.specs.Numbers.{checked, number_at, with_number}
use Rattle.aeg_base.specs.Locks.{no_locks}
use Rattle.exec_model.specs.Jobs.{run_job}
use Rattle.log_values.specs.Fields.{backend_at, stage_at}
use Rattle.log_values.specs.Outcomes.{outcome_at, all_pairs_at, all_ends_at, pairs_at, pair_at, ending_at}
use Rattle.aeg_wire.specs.Fields.{text_at}
use Rattle.aeg_wire.specs.Formats.{list_at}
use Rattle.worked_runs.proofs.Playing.{◌↵◌, later_played, played}

-- nodes that are down, up and gone, and a packet that was never sent
commands_at_nodes_that_cannot_take_them : played 20
    ("tiers 0 depth 1" ↵ "offer m0" ↵ "crash m0" ↵ "lead m0" ↵ "restart m0" ↵ "restart m0" ↵ "wipe m0" ↵ "restart m0" ↵ "deliver 7" ↵ [])
    ≡ Some ("idle m0 not-leader" ↵ "idle m0 down" ↵ "idle m0 up" ↵ "gone m0" ↵ "none 7" ↵ "log mid 0" ↵ "log inv 0" ↵ "log pay 0" ↵ "packets 0" ↵ [])
unfolding digits checked number_at with_number
commands_at_nodes_that_cannot_take_them = refl

-- `flow` passes over a packet to a node that is down, and its number brings it later; a wiped node is gone
packet_to_a_node_that_is_down : played 40
    ("tiers 1 depth 1" ↵ "crash m1" ↵ "lead m0" ↵ "deliver 0" ↵ "flow" ↵ "offer m0" ↵ "restart m1" ↵ "flow" ↵ "deliver 0" ↵ "flow" ↵ "wipe m1" ↵
    "deliver 0" ↵ "restart m1" ↵ [])
    ≡ Some ("lost 0" ↵ "idle m0 nothing" ↵ "lost 0" ↵ "gone m1" ↵ "log mid 0" ↵ "log inv 0" ↵ "log pay 0" ↵ "packets 4" ↵ [])
unfolding digits checked number_at with_number
packet_to_a_node_that_is_down = refl

-- a client with an open request is busy; what it sends again is executed once
repeated_request : later_played 40
    ("tiers 0 depth 1" ↵ "lead m0" ↵ "submit 1 open 1 5 10 0" ↵ "submit 1 open 1 5 10 0" ↵ "retry c1" ↵ "deliver 0" ↵ "calm" ↵ [])
    ≡ Some ("busy 1" ↵ "exec m0 0 steps 0x5 order 0 redo 0" ↵ "verdict 0 commit order 0" ↵ "start 1.1 0 open 1 5 10 0" ↵ "reply 1.1 opened 1" ↵
    "log mid 2" ↵ "log inv 0" ↵ "log pay 0" ↵ "packets 5" ↵ [])
unfolding digits checked number_at with_number no_locks run_job
    outcome_at all_pairs_at all_ends_at pairs_at pair_at ending_at backend_at stage_at text_at list_at
repeated_request = refl

-- a request that `lose` passed over comes by its number, and is executed once
lost_packet_comes_back : later_played 40
    ("tiers 0 depth 1" ↵ "lead m0" ↵ "submit 1 open 1 5 10 0" ↵ "lose" ↵ "calm" ↵ "deliver 0" ↵ "calm" ↵ [])
    ≡ Some ("exec m0 0 steps 0x5 order 0 redo 0" ↵ "verdict 0 commit order 0" ↵ "start 1.1 0 open 1 5 10 0" ↵ "reply 1.1 opened 1" ↵ "log mid 2" ↵
    "log inv 0" ↵ "log pay 0" ↵ "packets 4" ↵ [])
unfolding digits checked number_at with_number no_locks run_job
    outcome_at all_pairs_at all_ends_at pairs_at pair_at ending_at backend_at stage_at text_at list_at
lost_packet_comes_back = refl
