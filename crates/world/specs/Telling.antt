-- What is printed of a node's answer.
use Rattle.std.specs.Prelude.{ℕ, Bool, true, false, List, [], codes}
use Rattle.std.specs.Fmt.{decimal}
use Rattle.std.specs.declared.result.Result.{Result}
use Rattle.std.specs.declared.result.Result.TheVariants.{Ok, Err}
use Rattle.aeg_base.specs.declared.names.NodeId.{NodeId}
use Rattle.tier_model.specs.declared.turn.Turn.{Turn}
use Rattle.tier_model.specs.declared.turn.Turn.TheVariants.{Did, Ran, Dropped, Idle as Idles}
use Rattle.tier_model.specs.declared.turn.Fault.{Fault}
use Rattle.tier_model.specs.declared.turn.Fault.TheVariants as faults
use Rattle.run_model.specs.Text.{node_name, cause_text, idle_line, down_line, drop_line, then_word}

-- why a node went down: its journal is full, its disk stopped where that was armed, or its disk failed
abbrev pub told_fault : NodeId → Bool → Fault → List ℕ
told_fault n met (faults.JournalFull size) = down_line (node_name n) (codes "full")
told_fault n met faults.Memory = []
told_fault n true faults.Disk = down_line (node_name n) (codes "cut")
told_fault n false faults.Disk = down_line (node_name n) (codes "disk")
told_fault n met (faults.BadRecord at) = down_line (node_name n) (then_word (codes "record") (decimal at))

-- a command tells why it was idle
abbrev pub told_command_turn : NodeId → Turn → List ℕ
told_command_turn n (Idles cause) = idle_line (node_name n) (cause_text cause)
told_command_turn n Did = []
told_command_turn n (Ran note) = []
told_command_turn n (Dropped refusal) = []

abbrev pub told_command : NodeId → Bool → Result Turn Fault → List ℕ
told_command n met (Ok turn) = told_command_turn n turn
told_command n met (Err fault) = told_fault n met fault

-- a packet tells why it was refused
abbrev pub told_frame_turn : NodeId → Turn → List ℕ
told_frame_turn n (Dropped refusal) = drop_line (node_name n) refusal
told_frame_turn n Did = []
told_frame_turn n (Ran note) = []
told_frame_turn n (Idles cause) = []

abbrev pub told_frame : NodeId → Bool → Result Turn Fault → List ℕ
told_frame n met (Ok turn) = told_frame_turn n turn
told_frame n met (Err fault) = told_fault n met fault

-- a restart tells why the node stays down
abbrev pub told_restart : NodeId → Result ℕ Fault → List ℕ
told_restart n (Ok list) = []
told_restart n (Err fault) = told_fault n false fault

-- no want of memory
abbrev pub IsFault : Fault → Type 0
IsFault (faults.JournalFull size) = Unit {0}
IsFault faults.Memory = ⊥
IsFault faults.Disk = Unit {0}
IsFault (faults.BadRecord at) = Unit {0}

-- there was memory for the answer
abbrev pub HadMemory : {T : Type 0} → Result T Fault → Type 0
HadMemory (Ok answer) = Unit {0}
HadMemory (Err fault) = IsFault fault
