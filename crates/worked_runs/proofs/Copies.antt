-- Copies of a call at a backend, and holders of its answer.
use Rattle.std.proofs.Common.{◌≡◌, refl, [], Some}
use Rattle.std.specs.Fmt.{digits}
use Rattle.aeg_base.specs.Numbers.{checked, number_at, with_number}
use Rattle.aeg_base.specs.Locks.{no_locks}
use Rattle.exec_model.specs.Jobs.{run_job}
use Rattle.log_values.specs.Fields.{backend_at, stage_at}
use Rattle.log_values.specs.Outcomes.{outcome_at, all_pairs_at, all_ends_at, pairs_at, pair_at, ending_at}
use Rattle.aeg_wire.specs.Fields.{text_at}
use Rattle.aeg_wire.specs.Formats.{list_at}
use Rattle.worked_runs.proofs.Playing.{◌↵◌, later_played}

-- i0 offers the call once it has copies of two middle nodes
one_copy_of_a_call_is_not_enough : later_played 200
    ("tiers 1 depth 1" ↵ "lead m0" ↵ "lead i0" ↵ "calm" ↵ "submit 1 open 1 5 10 0" ↵ "calm" ↵ "submit 1 book 1 2" ↵ "flow" ↵ "offer m0" ↵ "flow" ↵
    "work m0" ↵ "work m1" ↵ "flow" ↵ "offer m0" ↵ "deliver 60" ↵ "deliver 62" ↵ "deliver 65" ↵ "deliver 63" ↵ "deliver 66" ↵ "deliver 68" ↵
    "offer i0" ↵ "deliver 68" ↵ "offer i0" ↵ "deliver 71" ↵ "offer i0" ↵ "deliver 74" ↵ [])
    ≡ Some ("exec m0 0 steps 0x5 order 0 redo 0" ↵ "exec m1 0 steps 0x5 order 0 redo 0" ↵ "exec m2 0 steps 0x5 order 0 redo 0" ↵
    "verdict 0 commit order 0" ↵ "start 1.1 0 open 1 5 10 0" ↵ "reply 1.1 opened 1" ↵ "exec m0 1 steps 0x10 order 0 redo 0" ↵
    "exec m1 1 steps 0x10 order 0 redo 0" ↵ "verdict 1 commit order 0" ↵ "start 1.2 1 book 1 2" ↵ "idle i0 nothing" ↵ "idle i0 nothing" ↵
    "serve inv 1" ↵ "log mid 4" ↵ "log inv 1" ↵ "log pay 0" ↵ "packets 82" ↵ [])
unfolding digits checked number_at with_number no_locks run_job
    outcome_at all_pairs_at all_ends_at pairs_at pair_at ending_at backend_at stage_at text_at list_at
one_copy_of_a_call_is_not_enough = refl

-- the same run goes on: m0 uses the answer once it knows of a second holder
answer_waits_for_a_second_holder : later_played 200
    ("tiers 1 depth 1" ↵ "lead m0" ↵ "lead i0" ↵ "calm" ↵ "submit 1 open 1 5 10 0" ↵ "calm" ↵ "submit 1 book 1 2" ↵ "flow" ↵ "offer m0" ↵ "flow" ↵
    "work m0" ↵ "work m1" ↵ "flow" ↵ "offer m0" ↵ "deliver 60" ↵ "deliver 62" ↵ "deliver 65" ↵ "deliver 63" ↵ "deliver 66" ↵ "deliver 68" ↵
    "offer i0" ↵ "deliver 68" ↵ "offer i0" ↵ "deliver 71" ↵ "offer i0" ↵ "deliver 74" ↵ "deliver 76" ↵ "deliver 79" ↵ "offer m0" ↵ "deliver 85" ↵
    "deliver 87" ↵ "deliver 90" ↵ "work m0" ↵ "deliver 82" ↵ "work m0" ↵ "deliver 93" ↵ "work m0" ↵ "deliver 95" ↵ "work m0" ↵ [])
    ≡ Some ("exec m0 0 steps 0x5 order 0 redo 0" ↵ "exec m1 0 steps 0x5 order 0 redo 0" ↵ "exec m2 0 steps 0x5 order 0 redo 0" ↵
    "verdict 0 commit order 0" ↵ "start 1.1 0 open 1 5 10 0" ↵ "reply 1.1 opened 1" ↵ "exec m0 1 steps 0x10 order 0 redo 0" ↵
    "exec m1 1 steps 0x10 order 0 redo 0" ↵ "verdict 1 commit order 0" ↵ "start 1.2 1 book 1 2" ↵ "idle i0 nothing" ↵ "idle i0 nothing" ↵
    "serve inv 1" ↵ "idle m0 no-answer inv 1" ↵ "idle m0 no-answer inv 1" ↵ "idle m0 no-answer inv 1" ↵ "exec m0 2 steps 0x2 order 0 redo 0" ↵
    "log mid 5" ↵ "log inv 1" ↵ "log pay 0" ↵ "packets 99" ↵ [])
unfolding digits checked number_at with_number no_locks run_job
    outcome_at all_pairs_at all_ends_at pairs_at pair_at ending_at backend_at stage_at text_at list_at
answer_waits_for_a_second_holder = refl
