-- Lines that are refused: where the program ends with status 2 and `script: line N row R`, the input reads as Fails N R.
use Rattle.std.proofs.Common.{◌≡◌, refl, []}
use Rattle.run_model.specs.Script.{Fails, script_of}
use Rattle.worked_runs.proofs.Playing.{◌↵◌}
use Rattle.worked_runs.proofs.Reading.{later_script_of}

-- ROW 5, A TEXT THAT IS NO REQUEST, AND ROW 9, WHAT IS YET TO COME: ROWS OF `examples/refusals`

unknown_request : script_of ("tiers 1 depth 1" ↵ "submit 1 jump" ↵ []) ≡ Fails 2 5
unknown_request = refl

request_lacks_a_number : script_of ("tiers 1 depth 1" ↵ "submit 1 open 1 5 10" ↵ []) ≡ Fails 2 5
request_lacks_a_number = refl

bookings_begin_at_1 : script_of ("tiers 1 depth 1" ↵ "submit 1 look 0" ↵ []) ≡ Fails 2 5
bookings_begin_at_1 = refl

space_of_a_request : script_of ("tiers 1 depth 1" ↵ "submit 1  look 5" ↵ []) ≡ Fails 2 5
space_of_a_request = refl

no_node_works : script_of ("tiers 1 depth 1" ↵ "work m0" ↵ []) ≡ Fails 2 9
no_node_works = refl

nothing_to_calm : script_of ("tiers 1 depth 1" ↵ "calm" ↵ []) ≡ Fails 2 9
nothing_to_calm = refl

booking_comes_later : script_of ("tiers 1 depth 1" ↵ "submit 1 book 1 2" ↵ []) ≡ Fails 2 9
booking_comes_later = refl

cancelling_comes_later : script_of ("tiers 1 depth 1" ↵ "submit 1 cancel 1" ↵ []) ≡ Fails 2 9
cancelling_comes_later = refl

-- WITHOUT ROW 9

request_that_is_none : later_script_of ("tiers 1 depth 1" ↵ "submit 1 book 1" ↵ []) ≡ Fails 2 5
request_that_is_none = refl

work_at_a_backend_node : later_script_of ("tiers 1 depth 1" ↵ "work p0" ↵ []) ≡ Fails 2 4
work_at_a_backend_node = refl

schedule_item_out_of_range : later_script_of ("tiers 1 depth 1" ↵ "work m0 by 32x1" ↵ []) ≡ Fails 2 3
schedule_item_out_of_range = refl

schedule_without_items : later_script_of ("tiers 1 depth 1" ↵ "work m0 by" ↵ []) ≡ Fails 2 3
schedule_without_items = refl
