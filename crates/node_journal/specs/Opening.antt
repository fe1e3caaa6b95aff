-- What opening a journal reads.
use Rattle.std.specs.Prelude.{◌≡◌, ◌≢◌, ◌⊎◌, ◌+◌, ◌≤◌, ◌++◌, [], ◌∷◌, get_or, drop, ℕ, List, length, true, false, cond}
use Rattle.std.specs.Prelude.{nat_lt, Option, Some, None, Result, Ok, Err}
use Rattle.aeg_disk.specs.declared.disk.DiskErr.{DiskErr}
use Rattle.aeg_disk.specs.declared.disk.DiskErr.TheVariants as DiskErrs
use Rattle.aeg_disk.specs.Disk.{DiskState, Image, Writes, Syncs, Rose}
use Rattle.node_journal.specs.declared.opening.OpenErr.{OpenErr}
use Rattle.node_journal.specs.declared.opening.OpenErr.TheVariants.{Disk, BadRecord, Memory}
use Rattle.node_journal.specs.Journal.{body_of, is_whole, records, end_of, IsBadAt}

-- the body of the whole entry behind a gate, or that there is none
abbrev pub Entry : List ℕ → Option (List ℕ) → Type 0
Entry rest None = is_whole rest ≡ false
Entry rest (Some body) = (is_whole rest ≡ true) × (body ≡ body_of rest)

-- what a disk's error is to whoever opens a journal on it
abbrev pub open_err : DiskErr → OpenErr
open_err DiskErrs.Failed = Disk
open_err DiskErrs.Memory = Memory

-- the disk is as it was, but for the faults where it failed
pub record Looked (a b : DiskState) : Type 0 where
  pub later : a.faults ≤ b.faults
  pub same : b ≡ record a { faults = b.faults }

-- after reads that went well the disk is the same, and one that failed has its cause
abbrev pub LooksTo : {T : Type 0} → DiskState → DiskState → Result T OpenErr → Type 0
LooksTo a b (Ok _) = b ≡ a
LooksTo a b (Err Disk) = Looked a b × ((b.stopped ≡ true) ⊎ Rose a.faults b.faults)
LooksTo a b (Err Memory) = b ≡ a
LooksTo a b (Err (BadRecord at)) = b ≡ a

-- the body of the entry that begins there, or that the gate there is shut
abbrev pub Next : List ℕ → ℕ → Option (List ℕ) → Type 0
Next bytes at None = get_or bytes at 0 ≢ 1
Next bytes at (Some body) = (get_or bytes at 0 ≡ 1) × (is_whole (drop (at + 1) bytes) ≡ true) × (body ≡ body_of (drop (at + 1) bytes))

-- the gate there is open, and no whole entry follows
pub record IsTornOff (bytes : List ℕ) (at : ℕ) : Type 0 where
  pub open_gate : get_or bytes at 0 ≡ 1
  pub none : is_whole (drop (at + 1) bytes) ≡ false

-- so far these were read, and the rest begins at that place
pub record Read (bytes : List ℕ) (out : List (List ℕ)) (at : ℕ) : Type 0 where
  pub list : records bytes ≡ out ++ records (drop at bytes)
  pub place : end_of bytes ≡ at + end_of (drop at bytes)

-- the two calls that shut the gate of an empty journal, up to the first that failed
abbrev pub Shuts : DiskState → DiskState → Result (Unit {0}) DiskErr → Type 0
Shuts a z (Ok _) = (b : DiskState) × Writes 0 (0 ∷ []) a b (Ok tt) × Syncs b z (Ok tt)
Shuts a z (Err e) = Writes 0 (0 ∷ []) a z (Err e) ⊎ ((b : DiskState) × Writes 0 (0 ∷ []) a b (Ok tt) × Syncs b z (Err e))

-- the bytes of an opened disk: an empty journal is one shut gate
abbrev pub opened_bytes : List ℕ → List ℕ
opened_bytes bytes = cond (nat_lt 1 (length bytes)) bytes (0 ∷ [])

-- the records are those of an image that there was, and no gate is bad unless one was
abbrev pub WasThere : DiskState → List ℕ → Type 0
WasThere a c = (d : List ℕ) × Image a d × (records c ≡ records d) × ((n : ℕ) → IsBadAt n c → (m : ℕ) × IsBadAt m d)
