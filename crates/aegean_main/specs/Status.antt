-- The exit status and the line of a status.
use Rattle.std.specs.Prelude.{ℕ, List, [], ◌++◌, codes}
use Rattle.std.specs.Fmt.{decimal}
use Rattle.aegean_main.specs.declared.status.LimitKind.TheVariants as limits
use Rattle.aegean_main.specs.declared.status.Status.{Status}
use Rattle.aegean_main.specs.declared.status.Status.TheVariants.{Done, Usage, Script, Plan, ReadFault, WriteFault, Limit, Illegal, Memory}

abbrev pub code_of : Status → ℕ
code_of Done = 0
code_of Usage = 1
code_of (Script line row) = 2
code_of (Plan row) = 2
code_of ReadFault = 3
code_of WriteFault = 4
code_of (Limit kind) = 5
code_of (Illegal line row) = 6
code_of Memory = 7

-- a text, a line's number and a row
abbrev pub line_and_row : List ℕ → ℕ → ℕ → List ℕ
line_and_row text line row = text ++ (decimal line ++ (codes " row " ++ (decimal row ++ codes "\n")))

-- the line that tells a status on standard error, none where all went well
abbrev pub line_for : Status → List ℕ
line_for Done = []
line_for Usage = codes "usage: aegean single|replay|run|drill\n"
line_for (Script line row) = line_and_row (codes "script: line ") line row
line_for (Plan row) = codes "plan: row " ++ (decimal row ++ codes "\n")
line_for ReadFault = codes "read fault\n"
line_for WriteFault = codes "write fault\n"
line_for (Limit limits.Bytes) = codes "limit bytes\n"
line_for (Limit limits.Lines) = codes "limit lines\n"
line_for (Limit limits.Packets) = codes "limit packets\n"
line_for (Illegal line row) = line_and_row (codes "illegal: line ") line row
line_for Memory = codes "out of memory\n"
