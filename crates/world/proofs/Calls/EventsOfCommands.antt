-- The events that commands are.
use Rattle.std.proofs.Common.{◌≡◌, ℕ, true, List, refl, Some}
use Rattle.aeg_base.specs.declared.names.End.{End}
use Rattle.aeg_base.specs.declared.names.NodeId.{NodeId}
use Rattle.aeg_disk.specs.Disk.{DiskState}
use Rattle.run_model.specs.declared.trace.Fared.{Fared}
use Rattle.run_model.specs.declared.trace.TraceEvent.TheVariants as events
use Rattle.run_model.specs.World as worlds
use Rattle.run_model.specs.World.{can_fare, happens}
use Rattle.run_model.specs.Resolving.{Becomes, Finds}
use Rattle.run_model.specs.Text as texts
use Rattle.run_model.specs.BookingRuns.{config, BookingWorld}
use Rattle.world.specs.declared.nodes.all_nodes.Nodes.{Nodes}
use Rattle.world.specs.declared.nodes.command.Command.{Command}
use Rattle.world.specs.declared.nodes.command.Command.TheVariants.{Lead, Offer}
use Rattle.world.specs.Commands.{event_of}
use Rattle.world.specs.Disks.{is_fault, is_faulty, place_in, place_of}
use Rattle.world.specs.Standing.{FaresAs}
use Rattle.world.proofs.Calls.CommandsOfTiers.{world_by, text_by}
use Rattle.world.proofs.Calls.CommandsInWorlds.{Commanded}
use Rattle.world.proofs.Events.WholeEvents.{if_can}
use Rattle.world.proofs.Events.OneMore.{fares_is}

pub faulty_by : (command : Command) (n : NodeId) (fared : Fared) → is_faulty (event_of command n fared) ≡ is_fault fared
faulty_by Lead n fared = refl
faulty_by Offer n fared = refl

pub finds_by : (command : Command) (n : NodeId) (fared : Fared) (w : BookingWorld) → Finds w (event_of command n fared)
finds_by Lead n fared w = tt
finds_by Offer n fared w = tt

pub place_by : (command : Command) (n : NodeId) (fared : Fared) (w : BookingWorld) → place_in w (event_of command n fared) ≡ Some (place_of n)
place_by Lead n fared w = refl
place_by Offer n fared w = refl

pub becomes_by : (command : Command) (n : NodeId) (asked fared : Fared) → FaresAs asked fared → Becomes (event_of command n asked) (event_of command n fared)
becomes_by Lead n asked fared h = fares_is (λ f. events.Lead n f) asked fared h
becomes_by Offer n asked fared h = fares_is (λ f. events.Offer n f) asked fared h

-- WHAT HAPPENS

pub happens_by : (u depth : ℕ) (w : BookingWorld) (n : NodeId) (command : Command) (fared : Fared) (nodes : Nodes)
    (disks : List DiskState) (after : List (End × List ℕ)) (told : List ℕ) → can_fare fared ≡ true
    → Commanded u depth w (world_by u depth w command fared n n.tier) nodes disks after
    (text_by u depth w command fared n n.tier) told
    → Commanded u depth w (happens (config u depth) w (event_of command n fared)) nodes disks after
    (texts.own_text (config u depth) w (event_of command n fared)) told
happens_by u depth w n Lead fared nodes disks after told can k =
    if_can u depth w (worlds.leads (config u depth) w fared n.tier n.index) nodes disks after fared (texts.leads_text (config u depth) w fared n n.tier) told
    can k
happens_by u depth w n Offer fared nodes disks after told can k =
    if_can u depth w (worlds.offers (config u depth) w fared n.tier n.index) nodes disks after fared (texts.offers_text (config u depth) w fared n n.tier) told
    can k
