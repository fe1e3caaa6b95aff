-- An executor over one lock, as its callers see it.
use Rattle.std.specs.Prelude.{ℕ, Option}
use Rattle.exec_core.specs.declared.noted.Noted.{Noted}
use Rattle.exec_locked.specs.declared.locked.LockedExec.{LockedExec}

-- how many runs it made
abbrev pub count_of : {R G : Type 0} → LockedExec R G → ℕ
count_of x = x.runs.count

-- the last of them
abbrev pub last_of : {R G : Type 0} → LockedExec R G → Option Noted
last_of x = x.runs.last

-- what it calls round each step
abbrev pub gate_of : {R G : Type 0} → LockedExec R G → G
gate_of x = x.gate
