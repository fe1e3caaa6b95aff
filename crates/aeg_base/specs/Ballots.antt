-- The order of ballots: by counter, then by node.
use Rattle.std.specs.Prelude.{◌==◌, ◌||◌, ◌&&◌, Bool, nat_lt, not}
use Rattle.aeg_base.specs.declared.names.Ballot.{Ballot}

abbrev pub no_ballot : Ballot
no_ballot = record { counter = 0; node = 0 }

abbrev pub same_ballot : Ballot → Ballot → Bool
same_ballot a b = (a.counter == b.counter) && (a.node == b.node)

abbrev pub is_below : Ballot → Ballot → Bool
is_below a b = nat_lt a.counter b.counter || ((a.counter == b.counter) && nat_lt a.node b.node)

abbrev pub is_at_most : Ballot → Ballot → Bool
is_at_most a b = not (is_below b a)
