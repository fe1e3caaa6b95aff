-- Words for worked runs: the booking service's world, its events in order, and tests of what a run came to.
--
-- A run is a function of how many turns it goes on, and its world is handed to the test as an argument: so it is computed
-- once, as a value. Written as one closed term it would be computed again for each of its parts.
use Rattle.std.proofs.Common.{ℕ, zero, suc, true, false, List, [], ◌∷◌, ◌++◌, length}
use Rattle.std.specs.Prelude.{Bool, nat_lt, ◌==◌, ◌&&◌}
use Rattle.std.specs.Str.{bytes_eq}
use Rattle.aeg_base.specs.declared.names.NodeId.{NodeId}
use Rattle.aeg_base.specs.declared.names.ReqId.{ReqId}
use Rattle.aeg_base.specs.declared.names.Tier.{Tier}
use Rattle.aeg_base.specs.declared.names.Tier.TheVariants.{Mid, Inv, Pay}
use Rattle.server_model.specs.Backends.{Amounts}
use Rattle.server_model.specs.History.{History}
use Rattle.server_model.specs.Server.{same_tier}
use Rattle.server_model.specs.declared.history.Hist.{Hist}
use Rattle.server_model.specs.declared.history.Hist.TheVariants.{Start, Serve, Resume}
use Rattle.log_values.specs.declared.entry.Entry.{Entry}
use Rattle.run_model.specs.declared.trace.Fared.TheVariants.{Fine}
use Rattle.run_model.specs.declared.trace.Found.TheVariants.{Reads}
use Rattle.run_model.specs.declared.trace.TraceEvent.{TraceEvent}
use Rattle.run_model.specs.declared.trace.TraceEvent.TheVariants.{Deliver, Offer, Work, Restart}
use Rattle.run_model.specs.World.{Config, World, start, happens}
use Rattle.run_model.specs.Runs.{grows}
use Rattle.run_model.specs.BookingRuns.{config}

-- a run with a pipeline of depth 1
abbrev pub conf : ℕ → Config Amounts
conf u = config u 1

-- RUNS

-- a world, and the first packet that isn't delivered yet
pub record At : Type 0 where
  pub cursor : ℕ
  pub world : World Amounts

abbrev pub all : ℕ → World Amounts → List TraceEvent → World Amounts
all u w [] = w
all u w (e ∷ es) = all u (grows (conf u) (happens (conf u) w e)) es

abbrev pub on : ℕ → At → List TraceEvent → At
on u a es = record { cursor = a.cursor; world = all u a.world es }

-- every packet is delivered, and those that this sends
abbrev pub flow : ℕ → ℕ → At → At
flow u zero a = a
flow u (suc n) a = elim (nat_lt a.cursor (length a.world.soup))
    [ true ↦ flow u n (record { cursor = suc a.cursor; world = all u a.world (Deliver a.cursor Fine ∷ []) }) | false ↦ a ]

-- events in order, and all that they lead to
abbrev pub flows : ℕ → List TraceEvent → At → At
flows u es a = flow u 300 (on u a es)

abbrev pub node : Tier → ℕ → NodeId
node t x = record { tier = t; index = x }

abbrev pub m : ℕ → NodeId
m x = node Mid x

abbrev pub nodes_of : Tier → ℕ → List NodeId
nodes_of t zero = []
nodes_of t (suc n) = nodes_of t n ++ node t n ∷ []

abbrev pub each : (NodeId → TraceEvent) → List NodeId → List TraceEvent
each f [] = []
each f (n ∷ ns) = f n ∷ each f ns

-- how many nodes a tier has
abbrev pub size : ℕ → ℕ
size zero = 1
size (suc u) = suc (suc (size u))

abbrev pub all_nodes : ℕ → List NodeId
all_nodes u = nodes_of Mid (size u) ++ nodes_of Inv (size u) ++ nodes_of Pay (size u)

abbrev pub ups : ℕ → List TraceEvent
ups u = each (λ n. Restart n (Reads 0)) (all_nodes u)

-- each node offers, and each middle node works
abbrev pub turn : ℕ → List TraceEvent
turn u = each (λ n. Offer n Fine) (all_nodes u) ++ each (λ n. Work n []) (nodes_of Mid (size u))

-- so many turns until nothing is left to do; those in which nothing is left change nothing
abbrev pub calm : ℕ → ℕ → At → At
calm u zero a = flow u 300 a
calm u (suc n) a = calm u n (on u (flow u 300 a) (turn u))

abbrev pub begun : At
begun = record { cursor = 0; world = start }

-- TESTS

-- Tests that compute to true: compared as lists the kernel would compute a run again for each of their items.
abbrev pub same_who : ReqId → ReqId → Bool
same_who a b = (a.client == b.client) && (a.seq == b.seq)

abbrev pub same_step : Hist → Hist → Bool
same_step (Start a n) (Start b k) = same_who a b && (n == k)
same_step (Serve t n) (Serve v k) = same_tier t v && (n == k)
same_step (Resume a n) (Resume b k) = same_who a b && (n == k)
same_step a b = false

abbrev pub same_history : History → History → Bool
same_history [] [] = true
same_history (a ∷ xs) (b ∷ ys) = same_step a.0 b.0 && (bytes_eq a.1 b.1 && same_history xs ys)
same_history xs ys = false

abbrev pub same_entry : Entry → Entry → Bool
same_entry a b = (a.client == b.client) && ((a.seq == b.seq) && bytes_eq a.body b.body)

abbrev pub same_replies : List Entry → List Entry → Bool
same_replies [] [] = true
same_replies (a ∷ xs) (b ∷ ys) = same_entry a b && same_replies xs ys
same_replies xs ys = false

-- the history, what clients were told, the lengths of the chosen logs, and the number of packets
pub record Sums : Type 0 where
  pub hist : History
  pub told : List Entry
  pub mid : ℕ
  pub inv : ℕ
  pub pay : ℕ
  pub packets : ℕ

abbrev pub sums : World Amounts → Sums → Bool
sums w s = same_history w.hist s.hist
    && (same_replies w.told s.told
    && ((length (w.logs Mid) == s.mid)
    && ((length (w.logs Inv) == s.inv) && ((length (w.logs Pay) == s.pay) && (length w.soup == s.packets)))))

abbrev pub came_to : At → Sums → Bool
came_to a s = sums a.world s

abbrev pub request : ℕ → ReqId
request seq = record { client = 1; seq = seq }

abbrev pub reply : ℕ → List ℕ → Entry
reply seq body = record { client = 1; seq = seq; body = body }
