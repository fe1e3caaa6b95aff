-- Small cases of the rules of rounds, computed, with the booking service's table.
use Rattle.std.proofs.Common.{◌≡◌, ℕ, true, List, [], ◌∷◌, refl, Option, Some, None}
use Rattle.std.specs.Prelude.{◌++◌, codes, map}
use Rattle.std.specs.Fmt.{digits}
use Rattle.aeg_base.specs.Numbers.{checked, number_at, with_number}
use Rattle.aeg_base.specs.declared.names.Tier.TheVariants.{Inv, Pay}
use Rattle.server_model.specs.Backends.{Amounts}
use Rattle.server_model.specs.Single.{booking_meaning}
use Rattle.log_values.specs.declared.any_value.AnyValue.{AnyValue}
use Rattle.log_values.specs.declared.any_value.AnyValue.TheVariants.{Mid as InMid}
use Rattle.log_values.specs.declared.entry.Entry.{Entry}
use Rattle.log_values.specs.declared.mid_value.MidValue.TheVariants.{Batch, Verdict as Decided}
use Rattle.log_values.specs.declared.mid_value.Verdict.TheVariants.{Commit, Serial}
use Rattle.round_model.specs.Service.{Programs, Service, is_order}
use Rattle.round_model.specs.Spelled.{spelled}
use Rattle.round_model.specs.Tables.{Parked, Tables, tables0, fresh_entries, batch_of, kept_of, Codes}
use Rattle.round_model.specs.After.{after, round}
use Rattle.round_model.specs.Verdicts.{Claims, no_claims, with_claim, verdict}
use Rattle.round_model.specs.Held.{HeldState, answers_of, none_held, untold, takes, hears, usable, floor, highest}
use Rattle.round_model.specs.Shims.{ShimState, new_shim, takes_copy, serves, settles, told_floor, due, due_floor}
use Rattle.round_model.specs.Shims as shims

-- nothing here runs a program
abbrev service : Service Amounts
service = spelled booking_meaning (λ who body stage. None)

abbrev m : Programs
m = service.programs

-- THE VERDICT RULE, OF THREE NODES

-- the claims with one more, of a token of one byte
abbrev also : Claims → ℕ → ℕ → List ℕ → Claims
also claims node token order = with_claim claims node (record { token = token ∷ []; order = order })

one_token_gives_none : verdict 1 (also no_claims 2 7 (0 ∷ [])) ≡ None
one_token_gives_none = refl

-- the order is that of the lowest-numbered of the nodes that agree
two_equal_tokens_commit : verdict 1 (also (also (also no_claims 2 7 (0 ∷ 1 ∷ [])) 0 9 (0 ∷ 1 ∷ [])) 1 7 (1 ∷ 0 ∷ [])) ≡ Some (Commit (7 ∷ []) (1 ∷ 0 ∷ []))
two_equal_tokens_commit = refl

two_different_tokens_are_serial : verdict 1 (also (also no_claims 0 7 (0 ∷ [])) 1 9 (0 ∷ [])) ≡ Some Serial
two_different_tokens_are_serial = refl

-- ORDERS

an_order : is_order 3 (2 ∷ 0 ∷ 1 ∷ []) ≡ true
an_order = refl

-- FRESH ENTRIES AND BATCHES

abbrev entry : ℕ → ℕ → List ℕ → Entry
entry client seq body = record { client = client; seq = seq; body = body }

-- A client's second entry isn't looked at, a number that isn't the next is passed over, and so is a text that is no
-- request.
fresh_ones : fresh_entries m (tables0 1) (entry 2 1 (codes "look 5") ∷ entry 2 1 (codes "look 6")
    ∷ entry 1 2 (codes "look 5") ∷ entry 3 1 (codes "open 1 5 10") ∷ entry 4 1 (codes "open 1 5 10 0") ∷ [])
    ≡ entry 2 1 (codes "look 5") ∷ entry 4 1 (codes "open 1 5 10 0") ∷ []
fresh_ones = refl

abbrev pends : ℕ → Option Entry
pends client = Some (entry client 1 (codes "look 5"))

-- the ninth client waits
eight_of_nine : batch_of m (tables0 1) (None ∷ pends 1 ∷ pends 2 ∷ pends 3 ∷ pends 4 ∷ pends 5 ∷ pends 6 ∷ pends 7 ∷ pends 8 ∷ pends 9 ∷ [])
    ≡ entry 1 1 (codes "look 5") ∷ entry 2 1 (codes "look 5") ∷ entry 3 1 (codes "look 5") ∷ entry 4 1 (codes "look 5")
    ∷ entry 5 1 (codes "look 5") ∷ entry 6 1 (codes "look 5") ∷ entry 7 1 (codes "look 5") ∷ entry 8 1 (codes "look 5") ∷ []
eight_of_nine = refl

-- ROUNDS

abbrev log : List AnyValue
log = InMid (Batch (entry 1 1 (codes "open 1 5 10 0") ∷ [])) ∷ InMid (Decided Serial)
    ∷ InMid (Batch (entry 1 2 (codes "book 1 2") ∷ [])) ∷ InMid (Decided Serial) ∷ InMid (Batch []) ∷ []

abbrev no_codes : Codes
no_codes tier num = None

-- what the first client was last told
abbrev told : Option Tables → Option (List ℕ)
told None = None
told (Some T) = kept_of T.kept 1

abbrev parked : Option Tables → List (List Parked)
parked None = []
parked (Some T) = T.queue

opened : told (after m 1 log no_codes 1) ≡ Some (codes "opened 1")
unfolding digits checked number_at with_number
opened = refl

-- the booking waits for its first call to inventory
reserves : parked (after m 1 log no_codes 2)
    ≡ (record {
      client = 1;
      seq = 2;
      body = codes "book 1 2";
      stage = 1;
      tier = Inv;
      num = 1;
      text = codes "reserve 1 2";
    } ∷ []) ∷ []
unfolding digits checked number_at with_number
reserves = refl

abbrev fresh_after : Option Tables → List Entry → List Entry
fresh_after None es = []
fresh_after (Some T) es = fresh_entries m T es

-- while it waits, its client's next request does too
busy_client : fresh_after (after m 1 log no_codes 2) (entry 1 3 (codes "look 5") ∷ entry 2 1 (codes "look 5") ∷ []) ≡ entry 2 1 (codes "look 5") ∷ []
unfolding digits checked number_at with_number
busy_client = refl

abbrev numbers_of : List (List Parked) → List ℕ
numbers_of [] = []
numbers_of (ps ∷ pss) = map (λ p. p.num) ps ++ numbers_of pss

abbrev two_bookings : List AnyValue
two_bookings = InMid (Batch (entry 1 1 (codes "open 1 5 10 0") ∷ [])) ∷ InMid (Decided Serial)
    ∷ InMid (Batch (entry 1 2 (codes "book 1 2") ∷ entry 2 1 (codes "book 1 2") ∷ [])) ∷ InMid (Decided Serial) ∷ []

-- the calls of a round have numbers of their own
two_numbers : numbers_of (parked (after m 1 two_bookings no_codes 2)) ≡ 1 ∷ 2 ∷ []
unfolding digits checked number_at with_number
two_numbers = refl

-- a Commit whose order is none of the job comes to nothing
abbrev commits : List ℕ → List AnyValue
commits order = InMid (Batch (entry 1 1 (codes "open 1 5 10 0") ∷ [])) ∷ InMid (Decided (Commit [] order)) ∷ []

in_an_order : told (after m 1 (commits (0 ∷ [])) no_codes 1) ≡ Some (codes "opened 1")
unfolding digits checked number_at with_number
in_an_order = refl

in_no_order : after m 1 (commits (0 ∷ 0 ∷ [])) no_codes 1 ≡ None
unfolding digits checked number_at with_number
in_no_order = refl

-- the next round has no job before the answer is there
waits_for_the_answer : round m 1 log no_codes 2 ≡ None
unfolding digits checked number_at with_number
waits_for_the_answer = refl

-- HELD ANSWERS BY NUMBER

abbrev after_answers : HeldState
after_answers = takes (takes (takes (none_held 1 0) Inv 3 7) Inv 1 5) Inv 1 6

by_number : answers_of after_answers Inv ≡ (1, untold 5) ∷ (3, untold 7) ∷ []
by_number = refl

held_here_alone : usable after_answers Inv 1 ≡ None
held_here_alone = refl

held_here_and_there : usable (hears after_answers 2 Inv 1 5) Inv 1 ≡ Some 5
held_here_and_there = refl

-- of five nodes three must hold it, and a node that tells it twice counts once
told_twice : usable (hears (hears (takes (none_held 2 0) Inv 1 5) 2 Inv 1 5) 2 Inv 1 5) Inv 1 ≡ None
told_twice = refl

abbrev after_haves : HeldState
after_haves = hears (hears (hears after_answers 1 Inv 1 5) 2 Inv 2 4) 1 Inv 3 7

-- one that isn't held becomes held by a Have, whose sender holds it too
usable_by_a_have : usable after_haves Inv 2 ≡ Some 4
usable_by_a_have = refl

-- the second isn't usable yet, though the third is
floor_at_the_second : floor (hears (hears (takes after_answers Inv 2 4) 1 Inv 1 5) 1 Inv 3 7) Inv ≡ 2
floor_at_the_second = refl

floor_past_three : floor after_haves Inv ≡ 4
floor_past_three = refl

floor_of_another_tier : floor after_haves Pay ≡ 1
floor_of_another_tier = refl

codes_ascending : highest after_haves Inv ≡ (1, 5) ∷ (2, 4) ∷ (3, 7) ∷ []
codes_ascending = refl

-- COPIES AND FLOORS AT A BACKEND

abbrev three_copies : ShimState
three_copies = takes_copy
    (takes_copy (takes_copy (takes_copy (new_shim 1) 0 2 (codes "release 1 2")) 1 1 (codes "reserve 1 2")) 1 1
    (codes "reserve 1 2")) 2 2 (codes "release 1 3")

no_equal_copies : shims.ready three_copies ≡ None
no_equal_copies = refl

two_equal_copies : shims.ready (takes_copy three_copies 1 2 (codes "release 1 2")) ≡ Some (2, codes "release 1 2")
two_equal_copies = refl

different_copies_are_not_enough : shims.ready (takes_copy (takes_copy (new_shim 1) 0 1 (codes "reserve 1 2")) 1 1 (codes "reserve 1 3")) ≡ None
different_copies_are_not_enough = refl

abbrev four_copies : ShimState
four_copies = takes_copy
    (takes_copy (takes_copy (takes_copy (new_shim 1) 0 2 (codes "release 1 2")) 0 1 (codes "reserve 1 2")) 2 2
    (codes "release 1 2")) 1 1 (codes "reserve 1 2")

the_least_ready : shims.ready four_copies ≡ Some (1, codes "reserve 1 2")
the_least_ready = refl

-- a copy of a call that was served, or is below the floor, doesn't count
served_once : takes_copy (serves three_copies 1 0) 2 1 (codes "reserve 1 2") ≡ serves three_copies 1 0
served_once = refl

nothing_below_the_floor : settles (serves three_copies 1 0) 3 ≡ record (new_shim 1) { floor = 3 }
nothing_below_the_floor = refl

second_of_three : due_floor (told_floor (told_floor (told_floor (new_shim 1) 0 4) 1 2) 2 3) ≡ Some 3
second_of_three = refl

-- of three floors the second largest
second_largest : due 1 (7 ∷ 1 ∷ 4 ∷ []) ≡ 4
second_largest = refl
