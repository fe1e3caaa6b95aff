-- The worked runs of the one server, computed: the text that each input is answered with, and the refusals.
use Rattle.std.specs.Prelude.{◌≡◌, [], None, Some, codes, refl}
use Rattle.std.specs.Fmt.{digits}
use Rattle.aeg_base.specs.Numbers.{checked, number_at, with_number}
use Rattle.server_model.specs.Single.{Judged, Reads, Fails, judgement, Outcome, run_of}

-- what goes out for an input, and the line and rule of its first refused step
abbrev answered : Judged → Outcome
answered (Reads steps) = run_of steps
answered (Fails line row) = record { text = []; refused = Some (line, row) }

bad_number : judgement (codes "start 1.1 0 open 1 5 10 0\nserve inv 0\n") ≡ Fails 2 3
unfolding digits checked number_at with_number
bad_number = refl

bad_request : judgement (codes "start 1.1 0 open 1 5 10\n") ≡ Fails 1 5
unfolding digits checked number_at with_number
bad_request = refl

booking : answered (judgement
    (codes "start 1.1 0 open 1 5 10 0\nstart 1.2 1 book 1 2\nserve inv 1\nresume 1.2 1\nserve pay 1\nresume 1.2 0\n"))
    ≡ record {
      text = codes
          "reply 1.1 opened 1\ncall inv 1 reserve 1 2\nanswer inv 1 0\ncall pay 1 charge 1 20\nanswer pay 1 0\nreply 1.2 booked 17\n";
      refused = None;
    }
unfolding digits checked number_at with_number
booking = refl

call_served_twice : answered
    (judgement (codes "start 1.1 0 open 1 5 10 0\nstart 1.2 1 book 1 2\nserve inv 1\nserve inv 1\n"))
    ≡ record { text = codes "reply 1.1 opened 1\ncall inv 1 reserve 1 2\nanswer inv 1 0\n"; refused = Some (4, 4) }
unfolding digits checked number_at with_number
call_served_twice = refl

call_without_a_number : answered (judgement (codes "start 1.1 0 open 1 5 10 0\nstart 1.2 0 book 1 2\n"))
    ≡ record { text = codes "reply 1.1 opened 1\n"; refused = Some (2, 7) }
unfolding digits checked number_at with_number
call_without_a_number = refl

declined_payment : answered
    (judgement (codes
    "start 1.1 0 open 1 5 10000 0\nstart 1.2 1 book 1 2\nserve inv 1\nresume 1.2 1\nserve pay 1\nresume 1.2 2\n"))
    ≡ record {
      text = codes
          "reply 1.1 opened 1\ncall inv 1 reserve 1 2\nanswer inv 1 0\ncall pay 1 charge 1 20000\nanswer pay 1 2\ncall inv 2 release 1 2\n";
      refused = None;
    }
unfolding digits checked number_at with_number
declined_payment = refl

empty_input : answered (judgement (codes "")) ≡ record { text = codes ""; refused = None }
unfolding digits checked number_at with_number
empty_input = refl

linked_to_a_full_trip : answered
    (judgement (codes
    "start 1.1 0 open 2 1 10 0\nstart 1.2 0 open 1 5 10 2\nstart 2.1 1 book 2 1\nstart 1.3 0 book 1 1\n"))
    ≡ record {
      text = codes
          "reply 1.1 opened 2\nreply 1.2 opened 1\ncall inv 1 reserve 2 1\nreply 1.3 refused 5 LinkFull\n";
      refused = None;
    }
unfolding digits checked number_at with_number
linked_to_a_full_trip = refl

number_given_twice : answered
    (judgement (codes "start 1.1 0 open 1 5 10 0\nstart 1.2 1 book 1 2\nstart 2.1 1 book 1 1\n"))
    ≡ record { text = codes "reply 1.1 opened 1\ncall inv 1 reserve 1 2\n"; refused = Some (3, 8) }
unfolding digits checked number_at with_number
number_given_twice = refl

number_without_a_call : answered (judgement (codes "start 1.1 5 open 1 5 10 0\n")) ≡ record { text = codes ""; refused = Some (1, 7) }
unfolding digits checked number_at with_number
number_without_a_call = refl

open_and_look : answered (judgement (codes "start 1.1 0 open 1 5 10 0\nstart 1.2 0 look 5\n"))
    ≡ record { text = codes "reply 1.1 opened 1\nreply 1.2 refused 9 NoBooking\n"; refused = None }
unfolding digits checked number_at with_number
open_and_look = refl

resume_before_the_call_is_served : answered
    (judgement (codes "start 1.1 0 open 1 5 10 0\nstart 1.2 1 book 1 2\nresume 1.2 1\nserve pay 1\nresume 1.2 0\n"))
    ≡ record { text = codes "reply 1.1 opened 1\ncall inv 1 reserve 1 2\n"; refused = Some (3, 6) }
unfolding digits checked number_at with_number
resume_before_the_call_is_served = refl

resume_of_nothing : answered (judgement (codes "start 1.1 0 open 1 5 10 0\nresume 1.1 0\n"))
    ≡ record { text = codes "reply 1.1 opened 1\n"; refused = Some (2, 5) }
unfolding digits checked number_at with_number
resume_of_nothing = refl

second_request_at_once : answered
    (judgement (codes "start 1.1 0 open 1 5 10 0\nstart 1.2 1 book 1 2\nstart 1.3 0 look 1\n"))
    ≡ record { text = codes "reply 1.1 opened 1\ncall inv 1 reserve 1 2\n"; refused = Some (3, 2) }
unfolding digits checked number_at with_number
second_request_at_once = refl

serves_no_call : answered (judgement (codes "serve inv 1\n")) ≡ record { text = codes ""; refused = Some (1, 4) }
unfolding digits checked number_at with_number
serves_no_call = refl

skips_a_sequence_number : answered (judgement (codes "start 1.2 0 look 5\n")) ≡ record { text = codes ""; refused = Some (1, 1) }
unfolding digits checked number_at with_number
skips_a_sequence_number = refl
