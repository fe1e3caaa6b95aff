-- Pipelines of depth 1 and 4, and nine clients that book at once.
use Rattle.std.proofs.Common.{◌≡◌, refl, [], Some}
use Rattle.std.specs.Fmt.{digits}
use Rattle.aeg_base.specs.Numbers.{checked, number_at, with_number}
use Rattle.aeg_base.specs.Locks.{no_locks}
use Rattle.exec_model.specs.Jobs.{run_job}
use Rattle.log_values.specs.Fields.{backend_at, stage_at}
use Rattle.log_values.specs.Outcomes.{outcome_at, all_pairs_at, all_ends_at, pairs_at, pair_at, ending_at}
use Rattle.aeg_wire.specs.Fields.{text_at}
use Rattle.aeg_wire.specs.Formats.{list_at}
use Rattle.worked_runs.proofs.Playing.{◌↵◌, later_played}

-- a batch takes eight, and the ninth comes a round later
ninth_client_waits_for_the_next_batch : later_played 400
    ("tiers 0 depth 1" ↵ "lead m0" ↵ "lead i0" ↵ "lead p0" ↵ "submit 9 open 1 100 10 0" ↵ "calm" ↵ "submit 1 book 1 1" ↵ "submit 2 book 1 1" ↵
    "submit 3 book 1 1" ↵ "submit 4 book 1 1" ↵ "submit 5 book 1 1" ↵ "submit 6 book 1 1" ↵ "submit 7 book 1 1" ↵ "submit 8 book 1 1" ↵
    "submit 9 book 1 1" ↵ "calm" ↵ [])
    ≡ Some ("exec m0 0 steps 0x5 order 0 redo 0" ↵ "verdict 0 commit order 0" ↵ "start 9.1 0 open 1 100 10 0" ↵ "reply 9.1 opened 1" ↵
    "exec m0 1 steps 0x10 1x10 2x10 3x10 4x10 5x10 6x10 7x10 order 0 1 2 3 4 5 6 7 redo 0" ↵ "verdict 1 commit order 0 1 2 3 4 5 6 7" ↵
    "start 1.1 1 book 1 1" ↵ "start 2.1 2 book 1 1" ↵ "start 3.1 3 book 1 1" ↵ "start 4.1 4 book 1 1" ↵ "start 5.1 5 book 1 1" ↵
    "start 6.1 6 book 1 1" ↵ "start 7.1 7 book 1 1" ↵ "start 8.1 8 book 1 1" ↵ "serve inv 1" ↵ "serve inv 2" ↵ "serve inv 3" ↵ "serve inv 4" ↵
    "serve inv 5" ↵ "serve inv 6" ↵ "serve inv 7" ↵ "serve inv 8" ↵
    "exec m0 2 steps 0x2 1x2 2x2 3x2 4x2 5x2 6x2 7x2 8x10 order 0 1 2 3 4 5 6 7 8 redo 0" ↵ "verdict 2 commit order 0 1 2 3 4 5 6 7 8" ↵
    "resume 1.1 1" ↵ "resume 2.1 2" ↵ "resume 3.1 3" ↵ "resume 4.1 4" ↵ "resume 5.1 5" ↵ "resume 6.1 6" ↵ "resume 7.1 7" ↵ "resume 8.1 8" ↵
    "start 9.2 9 book 1 1" ↵ "serve inv 9" ↵ "serve pay 1" ↵ "serve pay 2" ↵ "serve pay 3" ↵ "serve pay 4" ↵ "serve pay 5" ↵ "serve pay 6" ↵
    "serve pay 7" ↵ "serve pay 8" ↵ "exec m0 3 steps 0x2 1x2 2x2 3x2 4x2 5x2 6x2 7x2 8x2 order 0 1 2 3 4 5 6 7 8 redo 0" ↵
    "verdict 3 commit order 0 1 2 3 4 5 6 7 8" ↵ "resume 1.1 0" ↵ "resume 2.1 0" ↵ "resume 3.1 0" ↵ "resume 4.1 0" ↵ "resume 5.1 0" ↵
    "resume 6.1 0" ↵ "resume 7.1 0" ↵ "resume 8.1 0" ↵ "resume 9.2 9" ↵ "reply 1.1 booked 1" ↵ "reply 2.1 booked 2" ↵ "reply 3.1 booked 3" ↵
    "reply 4.1 booked 4" ↵ "reply 5.1 booked 5" ↵ "reply 6.1 booked 6" ↵ "reply 7.1 booked 7" ↵ "reply 8.1 booked 8" ↵ "serve pay 9" ↵
    "exec m0 4 steps 0x2 order 0 redo 0" ↵ "verdict 4 commit order 0" ↵ "resume 9.2 0" ↵ "reply 9.2 booked 25" ↵ "log mid 10" ↵ "log inv 9" ↵
    "log pay 9" ↵ "packets 84" ↵ [])
unfolding digits checked number_at with_number no_locks run_job
    outcome_at all_pairs_at all_ends_at pairs_at pair_at ending_at backend_at stage_at text_at list_at
ninth_client_waits_for_the_next_batch = refl

-- rounds with no segment are run until the answers are used
deep_pipeline_has_empty_rounds : later_played 400
    ("tiers 0 depth 4" ↵ "lead m0" ↵ "lead i0" ↵ "lead p0" ↵ "submit 9 open 1 100 10 0" ↵ "calm" ↵ "submit 1 book 1 1" ↵ "submit 2 book 1 1" ↵
    "submit 3 book 1 1" ↵ "submit 4 book 1 1" ↵ "submit 5 book 1 1" ↵ "submit 6 book 1 1" ↵ "submit 7 book 1 1" ↵ "submit 8 book 1 1" ↵
    "submit 9 book 1 1" ↵ "calm" ↵ [])
    ≡ Some ("exec m0 0 steps 0x5 order 0 redo 0" ↵ "verdict 0 commit order 0" ↵ "start 9.1 0 open 1 100 10 0" ↵ "reply 9.1 opened 1" ↵
    "exec m0 1 steps 0x10 1x10 2x10 3x10 4x10 5x10 6x10 7x10 order 0 1 2 3 4 5 6 7 redo 0" ↵ "verdict 1 commit order 0 1 2 3 4 5 6 7" ↵
    "start 1.1 1 book 1 1" ↵ "start 2.1 2 book 1 1" ↵ "start 3.1 3 book 1 1" ↵ "start 4.1 4 book 1 1" ↵ "start 5.1 5 book 1 1" ↵
    "start 6.1 6 book 1 1" ↵ "start 7.1 7 book 1 1" ↵ "start 8.1 8 book 1 1" ↵ "serve inv 1" ↵ "serve inv 2" ↵
    "exec m0 2 steps 0x10 order 0 redo 0" ↵ "verdict 2 commit order 0" ↵ "start 9.2 9 book 1 1" ↵ "serve inv 3" ↵ "serve inv 4" ↵ "serve inv 5" ↵
    "exec m0 3 steps - order - redo 0" ↵ "verdict 3 commit order -" ↵ "serve inv 6" ↵ "serve inv 7" ↵ "serve inv 8" ↵
    "exec m0 4 steps - order - redo 0" ↵ "verdict 4 commit order -" ↵ "serve inv 9" ↵
    "exec m0 5 steps 0x2 1x2 2x2 3x2 4x2 5x2 6x2 7x2 order 0 1 2 3 4 5 6 7 redo 0" ↵ "verdict 5 commit order 0 1 2 3 4 5 6 7" ↵ "resume 1.1 1" ↵
    "resume 2.1 2" ↵ "resume 3.1 3" ↵ "resume 4.1 4" ↵ "resume 5.1 5" ↵ "resume 6.1 6" ↵ "resume 7.1 7" ↵ "resume 8.1 8" ↵ "serve pay 1" ↵
    "serve pay 2" ↵ "exec m0 6 steps 0x2 order 0 redo 0" ↵ "verdict 6 commit order 0" ↵ "resume 9.2 9" ↵ "serve pay 3" ↵ "serve pay 4" ↵
    "serve pay 5" ↵ "exec m0 7 steps - order - redo 0" ↵ "verdict 7 commit order -" ↵ "serve pay 6" ↵ "serve pay 7" ↵ "serve pay 8" ↵
    "exec m0 8 steps - order - redo 0" ↵ "verdict 8 commit order -" ↵ "serve pay 9" ↵
    "exec m0 9 steps 0x2 1x2 2x2 3x2 4x2 5x2 6x2 7x2 order 0 1 2 3 4 5 6 7 redo 0" ↵ "verdict 9 commit order 0 1 2 3 4 5 6 7" ↵ "resume 1.1 0" ↵
    "resume 2.1 0" ↵ "resume 3.1 0" ↵ "resume 4.1 0" ↵ "resume 5.1 0" ↵ "resume 6.1 0" ↵ "resume 7.1 0" ↵ "resume 8.1 0" ↵ "reply 1.1 booked 1" ↵
    "reply 2.1 booked 2" ↵ "reply 3.1 booked 3" ↵ "reply 4.1 booked 4" ↵ "reply 5.1 booked 5" ↵ "reply 6.1 booked 6" ↵ "reply 7.1 booked 7" ↵
    "reply 8.1 booked 8" ↵ "exec m0 10 steps 0x2 order 0 redo 0" ↵ "verdict 10 commit order 0" ↵ "resume 9.2 0" ↵ "reply 9.2 booked 25" ↵
    "log mid 22" ↵ "log inv 9" ↵ "log pay 9" ↵ "packets 96" ↵ [])
unfolding digits checked number_at with_number no_locks run_job
    outcome_at all_pairs_at all_ends_at pairs_at pair_at ending_at backend_at stage_at text_at list_at
deep_pipeline_has_empty_rounds = refl
