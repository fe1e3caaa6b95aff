-- The power of a disk goes at one of the four calls that write an acceptance. Those of the third stand in `examples/`, too.
use Rattle.std.proofs.Common.{◌≡◌, refl, [], Some}
use Rattle.std.specs.Fmt.{digits}
use Rattle.aeg_base.specs.Numbers.{checked, number_at, with_number}
use Rattle.worked_runs.proofs.Playing.{◌↵◌, played}

-- the gate is shut: nobody is told of what m1 accepted, and m2 has nothing to offer
power_cut_1_keep : played 60
    ("tiers 1 depth 1" ↵ "lead m0" ↵ "flow" ↵ "submit 1 open 1 5 10 0" ↵ "deliver 4" ↵ "offer m0" ↵ "cut 1 keep deliver 7" ↵ "restart m1" ↵
    "lead m2" ↵ "deliver 13" ↵ "deliver 14" ↵ "offer m2" ↵ [])
    ≡ Some ("down m1 cut" ↵ "idle m2 nothing" ↵ "log mid 0" ↵ "log inv 0" ↵ "log pay 0" ↵ "packets 15" ↵ [])
unfolding digits checked number_at with_number
power_cut_1_keep = refl

power_cut_1_drop : played 60
    ("tiers 1 depth 1" ↵ "lead m0" ↵ "flow" ↵ "submit 1 open 1 5 10 0" ↵ "deliver 4" ↵ "offer m0" ↵ "cut 1 drop deliver 7" ↵ "restart m1" ↵
    "lead m2" ↵ "deliver 13" ↵ "deliver 14" ↵ "offer m2" ↵ [])
    ≡ Some ("down m1 cut" ↵ "idle m2 nothing" ↵ "log mid 0" ↵ "log inv 0" ↵ "log pay 0" ↵ "packets 15" ↵ [])
unfolding digits checked number_at with_number
power_cut_1_drop = refl

power_cut_2_keep : played 60
    ("tiers 1 depth 1" ↵ "lead m0" ↵ "flow" ↵ "submit 1 open 1 5 10 0" ↵ "deliver 4" ↵ "offer m0" ↵ "cut 2 keep deliver 7" ↵ "restart m1" ↵
    "lead m2" ↵ "deliver 13" ↵ "deliver 14" ↵ "offer m2" ↵ [])
    ≡ Some ("down m1 cut" ↵ "idle m2 nothing" ↵ "log mid 0" ↵ "log inv 0" ↵ "log pay 0" ↵ "packets 15" ↵ [])
unfolding digits checked number_at with_number
power_cut_2_keep = refl

power_cut_2_drop : played 60
    ("tiers 1 depth 1" ↵ "lead m0" ↵ "flow" ↵ "submit 1 open 1 5 10 0" ↵ "deliver 4" ↵ "offer m0" ↵ "cut 2 drop deliver 7" ↵ "restart m1" ↵
    "lead m2" ↵ "deliver 13" ↵ "deliver 14" ↵ "offer m2" ↵ [])
    ≡ Some ("down m1 cut" ↵ "idle m2 nothing" ↵ "log mid 0" ↵ "log inv 0" ↵ "log pay 0" ↵ "packets 15" ↵ [])
unfolding digits checked number_at with_number
power_cut_2_drop = refl

-- the gate is open and what was written stays: m1 reports what it accepted, and m2 offers it
power_cut_3_keep : played 60
    ("tiers 1 depth 1" ↵ "lead m0" ↵ "flow" ↵ "submit 1 open 1 5 10 0" ↵ "deliver 4" ↵ "offer m0" ↵ "cut 3 keep deliver 7" ↵ "restart m1" ↵
    "lead m2" ↵ "deliver 13" ↵ "deliver 14" ↵ "offer m2" ↵ [])
    ≡ Some ("down m1 cut" ↵ "log mid 0" ↵ "log inv 0" ↵ "log pay 0" ↵ "packets 20" ↵ [])
unfolding digits checked number_at with_number
power_cut_3_keep = refl

-- the gate wasn't synced, so it is shut
power_cut_3_drop : played 60
    ("tiers 1 depth 1" ↵ "lead m0" ↵ "flow" ↵ "submit 1 open 1 5 10 0" ↵ "deliver 4" ↵ "offer m0" ↵ "cut 3 drop deliver 7" ↵ "restart m1" ↵
    "lead m2" ↵ "deliver 13" ↵ "deliver 14" ↵ "offer m2" ↵ [])
    ≡ Some ("down m1 cut" ↵ "idle m2 nothing" ↵ "log mid 0" ↵ "log inv 0" ↵ "log pay 0" ↵ "packets 15" ↵ [])
unfolding digits checked number_at with_number
power_cut_3_drop = refl

-- the record is there
power_cut_4_keep : played 60
    ("tiers 1 depth 1" ↵ "lead m0" ↵ "flow" ↵ "submit 1 open 1 5 10 0" ↵ "deliver 4" ↵ "offer m0" ↵ "cut 4 keep deliver 7" ↵ "restart m1" ↵
    "lead m2" ↵ "deliver 13" ↵ "deliver 14" ↵ "offer m2" ↵ [])
    ≡ Some ("down m1 cut" ↵ "log mid 0" ↵ "log inv 0" ↵ "log pay 0" ↵ "packets 20" ↵ [])
unfolding digits checked number_at with_number
power_cut_4_keep = refl

-- the second sync didn't end
power_cut_4_drop : played 60
    ("tiers 1 depth 1" ↵ "lead m0" ↵ "flow" ↵ "submit 1 open 1 5 10 0" ↵ "deliver 4" ↵ "offer m0" ↵ "cut 4 drop deliver 7" ↵ "restart m1" ↵
    "lead m2" ↵ "deliver 13" ↵ "deliver 14" ↵ "offer m2" ↵ [])
    ≡ Some ("down m1 cut" ↵ "idle m2 nothing" ↵ "log mid 0" ↵ "log inv 0" ↵ "log pay 0" ↵ "packets 15" ↵ [])
unfolding digits checked number_at with_number
power_cut_4_drop = refl
