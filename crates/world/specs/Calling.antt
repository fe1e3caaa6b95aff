-- A call at a node, during which its disk may stop.
use Rattle.std.specs.Prelude.{◌≡◌, ℕ, Bool, true, false, List, [], ◌++◌, codes, Option}
use Rattle.std.specs.declared.result.Result.{Result}
use Rattle.std.specs.declared.result.Result.TheVariants.{Ok, Err}
use Rattle.aeg_base.specs.declared.names.NodeId.{NodeId}
use Rattle.aeg_base.specs.declared.names.End.{End}
use Rattle.aeg_base.specs.declared.names.Tier.{Tier}
use Rattle.aeg_disk.specs.Disk.{DiskState}
use Rattle.tier_model.specs.declared.turn.Turn.{Turn as Answer}
use Rattle.tier_model.specs.declared.turn.Fault.{Fault}
use Rattle.run_model.specs.declared.trace.Found.{Found}
use Rattle.run_model.specs.declared.trace.Found.TheVariants.{Reads, Fault as Fails}
use Rattle.run_model.specs.Text.{node_name, idle_line, gone_line}
use Rattle.world.specs.declared.nodes.all_nodes.Nodes.{Nodes}
use Rattle.world.specs.declared.nodes.condition.Condition.{Condition}
use Rattle.world.specs.declared.nodes.condition.Condition.TheVariants.{Up, Down, Gone}
use Rattle.world.specs.declared.parts.arming.StopAt.{StopAt}
use Rattle.world.specs.declared.parts.Parts.{Parts}
use Rattle.world.specs.Arming.{armed_with, at_rest}
use Rattle.world.specs.Parts.{is_sure_now}
use Rattle.world.specs.NodeLists.{RowOf, MoveIn, ChangedIn}
use Rattle.world.specs.Watching.{hears_packets, all_grown}

-- where the armed stop was met, the node is sure of its disk
abbrev pub IsSureIf : Bool → Nodes → Nodes → Tier → ℕ → Type 0
IsSureIf true old new t x = ChangedIn old new t x (λ S. is_sure_now {S = S})
IsSureIf false old new t x = new ≡ old

-- The disk was armed, the node made its move, and the power was put back.
pub record Called (old new : Nodes) (t : Tier) (x : ℕ) (stop : Option StopAt) (disk_before disk_after : DiskState)
    (before after : List (End × List ℕ)) (row : RowOf) (answer : Result Answer Fault) (met : Bool) : Type 0 where
  pub between : Nodes
  pub called : DiskState
  pub moves : MoveIn old between t x (armed_with stop disk_before) called before after row answer
  pub stopped : met ≡ called.stopped
  pub rests : disk_after ≡ at_rest called
  pub sure : IsSureIf met between new t x

-- what is printed of a command at a node that isn't up
abbrev pub absent_text : NodeId → Condition → List ℕ
absent_text n Up = []
absent_text n Down = idle_line (node_name n) (codes "down")
absent_text n Gone = gone_line (node_name n)

-- the parts as an event leaves them
abbrev pub parts_after : Parts → Nodes → List (End × List ℕ) → Parts
parts_after old nodes packets = record old { nodes = nodes; soup = old.soup ++ packets; watch = all_grown (hears_packets old.watch packets) }

abbrev pub is_gone_in : Condition → Bool
is_gone_in Up = false
is_gone_in Down = false
is_gone_in Gone = true

-- what a restart found, by its node's answer
abbrev pub found_of : Result ℕ Fault → Found
found_of (Ok list) = Reads list
found_of (Err fault) = Fails
