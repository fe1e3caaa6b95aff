-- What a disk is to its callers, and what each call does to it.
pub use Rattle.aeg_base.specs.Faults.{Rose}
use Rattle.std.specs.Prelude.{◌≡◌, ◌≢◌, ◌⊎◌, ℕ, ◌+◌, ◌-◌, ◌≤◌, min, max, List, [], ◌∷◌, ◌++◌, length, take, drop, Bool, true, false, cond, Result, Ok, Err}
use Rattle.std.specs.Prelude.{replicate}
use Rattle.aeg_disk.specs.declared.disk.DiskErr.{DiskErr}
use Rattle.aeg_disk.specs.declared.disk.DiskErr.TheVariants.{Failed, Memory}

-- After a write of n bytes that a crash cuts short: any bytes in the range and past the old end, the same elsewhere.
pub record Torn (at n : ℕ) (old new : List ℕ) : Type 0 where
  pub before : take (min at (length old)) new ≡ take at old
  pub after : drop (at + n) new ≡ drop (at + n) old
  pub no_shorter : length old ≤ length new
  pub no_longer : length new ≤ max (length old) (at + n)

-- what a crash may leave where these bytes stood at the last successful sync, and these ranges were written since, the newest first
abbrev pub IsImage : List ℕ → List (ℕ × ℕ) → List ℕ → Type 0
IsImage kept [] c = c ≡ kept
IsImage kept (range ∷ ranges) c = (d : List ℕ) × IsImage kept ranges d × Torn range.0 range.1 d c

-- what a crash at some moment may leave
pub record Moment : Type 0 where
  pub kept : List ℕ
  pub ranges : List (ℕ × ℕ)

-- a disk as its callers see it
pub record DiskState : Type 0 where
  -- whether it tells what it holds: the next four say something only then
  pub tells : Bool
  pub bytes : List ℕ
  pub kept : List ℕ
  pub ranges : List (ℕ × ℕ)
  pub past : List Moment
  pub size : ℕ
  pub faults : ℕ
  pub stopped : Bool
  -- the write or sync from now that stops it, 0 where none does
  pub armed : ℕ
  -- whether all that was written stays then
  pub keep : Bool

-- the moment of now
abbrev pub now : DiskState → Moment
now s = record { kept = s.kept; ranges = s.ranges }

-- what a crash now may leave
abbrev pub Image : DiskState → List ℕ → Type 0
Image s c = IsImage s.kept s.ranges c

-- the bytes with others written over them; a gap before them is filled with 0
abbrev pub written : ℕ → List ℕ → List ℕ → List ℕ
written at bytes old = take at (old ++ replicate (at - length old) 0) ++ bytes ++ drop (at + length bytes) old

-- a write that was done
pub record Put (at : ℕ) (piece : List ℕ) (a b : DiskState) : Type 0 where
  pub bytes : b.bytes ≡ written at piece a.bytes
  pub kept : b.kept ≡ a.kept
  pub ranges : b.ranges ≡ (at, length piece) ∷ a.ranges
  pub past : b.past ≡ now b ∷ a.past

-- a sync that was done
pub record Settled (a b : DiskState) : Type 0 where
  pub bytes : b.bytes ≡ a.bytes
  pub kept : b.kept ≡ a.bytes
  pub ranges : b.ranges ≡ []
  pub past : b.past ≡ now b ∷ a.past

-- a failed write whose range counts as written
pub record Spoilt (at n : ℕ) (a b : DiskState) : Type 0 where
  pub kept : b.kept ≡ a.kept
  pub ranges : b.ranges ≡ (at, n) ∷ a.ranges
  pub past : b.past ≡ now b ∷ a.past

-- nothing of what it holds is changed
pub record SameContent (a b : DiskState) : Type 0 where
  pub bytes : b.bytes ≡ a.bytes
  pub kept : b.kept ≡ a.kept
  pub ranges : b.ranges ≡ a.ranges
  pub past : b.past ≡ a.past

-- The armed stop was met: with `keep` this is left, and else what stood at the last successful sync.
pub record Lost (left : List ℕ) (a b : DiskState) : Type 0 where
  pub bytes : b.bytes ≡ cond a.keep left a.kept
  pub kept : b.kept ≡ b.bytes
  pub ranges : b.ranges ≡ []
  pub past : b.past ≡ now b ∷ a.past

-- One write or sync of a disk that doesn't stand stopped, and that doesn't stop it.
pub record Passed (a b : DiskState) : Type 0 where
  pub ran : a.stopped ≡ false
  pub runs : b.stopped ≡ false
  pub unmet : a.armed ≢ 1
  pub armed : b.armed ≡ a.armed - 1
  pub keep : b.keep ≡ a.keep
  pub tells : b.tells ≡ a.tells

-- A write or sync was done: the disk has this length, and, where it tells, this holds.
pub record Done (a b : DiskState) (n : ℕ) (holds : Type 0) : Type 0 where
  pub passed : Passed a b
  pub faults : b.faults ≡ a.faults
  pub size : b.size ≡ n
  pub content : a.tells ≡ true → holds

-- A write or sync met a fault of the disk, which is counted: the disk has grown at most to this length.
pub record Fault (a b : DiskState) (n : ℕ) (holds : Type 0) : Type 0 where
  pub passed : Passed a b
  pub later : a.faults ≤ b.faults
  pub faults : Rose a.faults b.faults
  pub low : a.size ≤ b.size
  pub high : b.size ≤ n
  pub content : a.tells ≡ true → holds

-- A write or sync met the armed stop, which counts as no fault.
pub record Stop (a b : DiskState) (left : List ℕ) : Type 0 where
  pub ran : a.stopped ≡ false
  pub met : a.armed ≡ 1
  pub stopped : b.stopped ≡ true
  pub armed : b.armed ≡ 0
  pub tells : b.tells ≡ a.tells
  pub faults : b.faults ≡ a.faults
  pub content : a.tells ≡ true → Lost left a b

-- It stood stopped already, and nothing is changed.
pub record Stood (a b : DiskState) : Type 0 where
  pub stopped : a.stopped ≡ true
  pub same : b ≡ a

-- a fault in a look: nothing but the count of faults is changed
pub record Missed (a b : DiskState) : Type 0 where
  pub ran : a.stopped ≡ false
  pub later : a.faults ≤ b.faults
  pub rose : Rose a.faults b.faults
  pub same : b ≡ record a { faults = b.faults }

-- a write, by its answer
abbrev pub Writes : ℕ → List ℕ → DiskState → DiskState → Result (Unit {0}) DiskErr → Type 0
Writes at bytes a b (Ok _) = Done a b (max a.size (at + length bytes)) (Put at bytes a b)
Writes at bytes a b (Err Memory) = b ≡ a
Writes at bytes a b (Err Failed) = Stood a b ⊎ Stop a b (written at bytes a.bytes)
    ⊎ Fault a b (max a.size (at + length bytes)) (Spoilt at (length bytes) a b ⊎ SameContent a b)

-- a sync, by its answer
abbrev pub Syncs : DiskState → DiskState → Result (Unit {0}) DiskErr → Type 0
Syncs a b (Ok _) = Done a b a.size (Settled a b)
Syncs a b (Err Memory) = b ≡ a
Syncs a b (Err Failed) = Stood a b ⊎ Stop a b a.bytes ⊎ Fault a b a.size (SameContent a b)

-- a read or a look at the length, by its answer
abbrev pub Looks : {T : Type 0} → DiskState → DiskState → Result T DiskErr → Type 0
Looks a b (Ok _) = (a.stopped ≡ false) × (b ≡ a)
Looks a b (Err Memory) = b ≡ a
Looks a b (Err Failed) = Stood a b ⊎ Missed a b

-- what is true of each disk
pub record Lawful (s : DiskState) : Type 0 where
  pub size : length s.bytes ≡ s.size
  -- it reads as one of its images
  pub reads : Image s s.bytes

-- erased: blank, and neither armed nor stopped by it
pub record Blank (a b : DiskState) : Type 0 where
  pub size : b.size ≡ 0
  pub faults : b.faults ≡ a.faults
  pub stopped : b.stopped ≡ a.stopped
  pub armed : b.armed ≡ a.armed
  pub keep : b.keep ≡ a.keep
  pub tells : b.tells ≡ a.tells
  pub bytes : a.tells ≡ true → b.bytes ≡ []
  pub kept : a.tells ≡ true → b.kept ≡ []
  pub ranges : a.tells ≡ true → b.ranges ≡ []

-- What each call keeps, whatever it answers: the count of faults never falls, and only an armed disk stops.
pub record Later (a b : DiskState) : Type 0 where
  pub faults : a.faults ≤ b.faults
  pub tells : b.tells ≡ a.tells
  pub free : a.armed ≡ 0 → a.stopped ≡ false → (b.armed ≡ 0) × (b.stopped ≡ false)
  pub stands : a.stopped ≡ true → b.stopped ≡ true

-- a write in which no fault comes, by its answer
abbrev pub SureWrites : ℕ → List ℕ → DiskState → DiskState → Result (Unit {0}) DiskErr → Type 0
SureWrites at bytes a b (Ok _) = Done a b (max a.size (at + length bytes)) (Put at bytes a b)
SureWrites at bytes a b (Err Memory) = b ≡ a
SureWrites at bytes a b (Err Failed) = Stood a b ⊎ Stop a b (written at bytes a.bytes)

-- a sync in which no fault comes, by its answer
abbrev pub SureSyncs : DiskState → DiskState → Result (Unit {0}) DiskErr → Type 0
SureSyncs a b (Ok _) = Done a b a.size (Settled a b)
SureSyncs a b (Err Memory) = b ≡ a
SureSyncs a b (Err Failed) = Stood a b ⊎ Stop a b a.bytes
