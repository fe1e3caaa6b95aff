-- What the calls of an append do to the disk, and what they leave.
use Rattle.std.specs.Prelude.{◌≡◌, ◌⊎◌, ℕ, ◌+◌, ◌≤◌, List, [], ◌∷◌, ◌++◌, length, Bool, true, cond, ◌&&◌, nat_lt, Result, Ok, Err}
use Rattle.aeg_disk.specs.declared.disk.DiskErr.{DiskErr}
use Rattle.aeg_disk.specs.Disk.{DiskState, Moment, Image, IsImage, Writes, Syncs}
use Rattle.node_journal.specs.Journal.{Ends, records}

-- the four calls, up to the first that failed
abbrev pub Ran : ℕ → List ℕ → DiskState → DiskState → Result (Unit {0}) DiskErr → Type 0
Ran at piece a z (Ok _) =
    (b : DiskState) × (c : DiskState) × (d : DiskState) × Writes (at + 1) piece a b (Ok tt) × Syncs b c (Ok tt)
    × Writes at (1 ∷ []) c d (Ok tt) × Syncs d z (Ok tt)
Ran at piece a z (Err e) =
    Writes (at + 1) piece a z (Err e)
    ⊎ ((b : DiskState) × Writes (at + 1) piece a b (Ok tt) × Syncs b z (Err e))
    ⊎ ((b : DiskState) × (c : DiskState) × Writes (at + 1) piece a b (Ok tt) × Syncs b c (Ok tt) × Writes at (1 ∷ []) c z (Err e))
    ⊎ ((b : DiskState) × (c : DiskState) × (d : DiskState) × Writes (at + 1) piece a b (Ok tt) × Syncs b c (Ok tt)
    × Writes at (1 ∷ []) c d (Ok tt) × Syncs d z (Err e))

-- neither a fault of the disk nor a stop came
pub record IsFaultless (a b : DiskState) : Type 0 where
  pub faults : b.faults ≡ a.faults
  pub stopped : b.stopped ≡ a.stopped

-- each image of each of these moments
abbrev pub Each : List Moment → (List ℕ → Type 0) → Type 0
Each [] P = Unit {0}
Each (m ∷ ms) P = ((c : List ℕ) → IsImage m.kept m.ranges c → P c) × Each ms P

-- A crash now, or at any moment since, leaves what has P.
pub record LeavesOnly (a b : DiskState) (P : List ℕ → Type 0) : Type 0 where
  pub since : (more : List Moment) × (b.past ≡ more ++ a.past) × Each more P
  pub here : (c : List ℕ) → Image b c → P c

-- every image ends the list at this place
abbrev pub Holds : List (List ℕ) → ℕ → DiskState → Type 0
Holds rs at s = (c : List ℕ) → Image s c → Ends rs at c

-- the old list, or that list and the new record
abbrev pub OldOrNew : List (List ℕ) → ℕ → List ℕ → List ℕ → Type 0
OldOrNew rs at body c = Ends rs at c ⊎ Ends (rs ++ body ∷ []) (at + 5 + length body) c

-- whether a stop at this call of the append leaves the new record
abbrev pub is_kept : ℕ → Bool → Bool
is_kept nth keep = nat_lt 2 nth && keep

-- the armed stop was met, by one of the four calls, with no fault before
pub record StopMet (rs : List (List ℕ)) (at : ℕ) (body : List ℕ) (a z : DiskState) : Type 0 where
  pub first : 1 ≤ a.armed
  pub last : a.armed ≤ 4
  pub faults : z.faults ≡ a.faults
  pub left : a.tells ≡ true → Holds (cond (is_kept a.armed a.keep) (rs ++ body ∷ []) rs) (cond (is_kept a.armed a.keep) (at + 5 + length body) at) z

-- A journal that ends at this place may go on: every image has the records that a read gives, and the shut gate there.
abbrev pub IsReady : DiskState → ℕ → Type 0
IsReady s at = Holds (records s.bytes) at s

-- it may go on, and has these records
abbrev pub HasList : List (List ℕ) → DiskState → ℕ → Type 0
HasList rs s at = IsReady s at × (records s.bytes ≡ rs)
