-- What is fresh by a service's table and a client table.
use Rattle.std.specs.Prelude.{ℕ, zero, suc, ◌&&◌, ◌==◌, not, Bool, true, false, List, [], ◌∷◌, ◌++◌, Option, Some, None}
use Rattle.std.specs.Prelude.{slice_index_or, slice_set, if◌then◌else◌}
use Rattle.log_values.specs.declared.entry.Entry.{Entry}
use Rattle.round_model.specs.Lists.{is_some}
use Rattle.round_model.specs.Service.{Table}
use Rattle.round_model.specs.Tables.{last_of, who_of, in_range, pending_of}
use Rattle.batcher.specs.Clients.{ClientTable, busy_of}

-- the entry has its client's next number, and the client has no request in progress
abbrev pub is_next : ClientTable → Entry → Bool
is_next t e = in_range e && ((e.seq == suc (last_of t.last e.client)) && not (busy_of t.busy e.client))

abbrev pub is_fresh_by : Table → ClientTable → Entry → Bool
is_fresh_by table t e = in_range e && (is_some (table (who_of e) e.body 0) && ((e.seq == suc (last_of t.last e.client)) && not (busy_of t.busy e.client)))

-- of the entries, those that pass the test, among the first ones of clients whose flag isn't set
abbrev pub picked : (Entry → Bool) → List Bool → List Entry → List Entry
picked test seen [] = []
picked test seen (e ∷ es) =
    if slice_index_or seen e.client false then picked test seen es
    else if test e then e ∷ picked test (slice_set seen e.client true) es
    else picked test (slice_set seen e.client true) es

-- the entry, where there is one that passes the test
abbrev pub if_passes : (Entry → Bool) → Option Entry → List Entry
if_passes test None = []
if_passes test (Some e) = if test e then e ∷ [] else []

-- those that pass the test, of the clients up to this one
abbrev pub passing : (Entry → Bool) → List (Option Entry) → ℕ → List Entry
passing test pending zero = []
passing test pending (suc c) = passing test pending c ++ if_passes test (pending_of pending (suc c))
