-- Scripts, computed: the line and the rule of the first line that is refused, or the events.
use Rattle.std.specs.Prelude.{◌≡◌, [], ◌∷◌, codes, refl}
use Rattle.aeg_base.specs.declared.names.Tier.TheVariants.{Mid}
use Rattle.aeg_base.specs.declared.names.End.TheVariants.{Client}
use Rattle.run_model.specs.declared.line.Event.TheVariants.{Submit, Deliver, Short, Lead, Retry, Flow, Lose}
use Rattle.run_model.specs.Script.{Reads, Fails, script_of}

no_events : script_of (codes "tiers 0 depth 1\n") ≡ Reads (record { u = 0; depth = 1; events = [] })
no_events = refl

empty_script : script_of (codes "") ≡ Fails 1 1
empty_script = refl

only_line_feeds : script_of (codes "\n\n\n") ≡ Fails 4 1
only_line_feeds = refl

header_is_missing : script_of (codes "lead m0\n") ≡ Fails 1 1
header_is_missing = refl

header_with_a_wrong_number : script_of (codes "tiers 3 depth 1\n") ≡ Fails 1 1
header_with_a_wrong_number = refl

header_comes_twice : script_of (codes "tiers 1 depth 1\ntiers 1 depth 1\n") ≡ Fails 2 2
header_comes_twice = refl

line_with_an_unknown_word : script_of (codes "tiers 1 depth 1\njump m0\n") ≡ Fails 2 2
line_with_an_unknown_word = refl

leading_zero : script_of (codes "tiers 1 depth 1\ndeliver 00\n") ≡ Fails 2 3
leading_zero = refl

two_spaces : script_of (codes "tiers 1 depth 1\nlead  m0\n") ≡ Fails 2 3
two_spaces = refl

packet_number_out_of_range : script_of (codes "tiers 1 depth 1\n# a\n\ndeliver 65536\n") ≡ Fails 4 3
packet_number_out_of_range = refl

no_such_node_name : script_of (codes "tiers 1 depth 1\noffer m5\n") ≡ Fails 2 3
no_such_node_name = refl

node_outside_the_tiers : script_of (codes "tiers 1 depth 1\noffer m3\n") ≡ Fails 2 4
node_outside_the_tiers = refl

request_is_missing : script_of (codes "tiers 1 depth 1\nsubmit 1\n") ≡ Fails 2 3
request_is_missing = refl

request_that_is_none : script_of (codes "tiers 1 depth 1\nsubmit 1 open 1\n") ≡ Fails 2 5
request_that_is_none = refl

cut_at_a_fifth_call : script_of (codes "tiers 1 depth 1\ncut 5 keep lead m0\n") ≡ Fails 2 3
cut_at_a_fifth_call = refl

cut_of_a_line_that_cannot_be_cut : script_of (codes "tiers 1 depth 1\ncut 1 keep flow\n") ≡ Fails 2 3
cut_of_a_line_that_cannot_be_cut = refl

node_of_no_tier_is_wiped : script_of (codes "tiers 0 depth 1\nwipe m1\n") ≡ Fails 2 4
node_of_no_tier_is_wiped = refl

command_that_comes_later : script_of (codes "tiers 1 depth 1\ncalm\n") ≡ Fails 2 9
command_that_comes_later = refl

-- the last line feed may be missing
some_events :
    script_of (codes "# a\ntiers 1 depth 2\nlead m0\n\nsubmit 1 look 5\ndeliver 3\nshort 4 10\nretry c1\nlose\nflow") ≡ Reads (record {
      u = 1;
      depth = 2;
      events =
          (3, Lead (record { tier = Mid; index = 0 })) ∷ (5, Submit 1 (codes "look 5")) ∷ (6, Deliver 3)
          ∷ (7, Short 4 10) ∷ (8, Retry (Client 1)) ∷ (9, Lose) ∷ (10, Flow) ∷ [];
    })
some_events = refl
