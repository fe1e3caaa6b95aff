-- A disk in memory: its bytes, and what undoes each write and sync, the newest first.
use Rattle.std.specs.Prelude.{ℕ, ◌+◌, min, max, List, [], ◌∷◌, ◌++◌, length, take, drop, Bool, true, false, cond, ◌&&◌, ◌||◌, nat_le}
use Rattle.aeg_disk.specs.Disk.{DiskState, Moment}

-- What undoes a write or a sync: where it wrote, how many bytes, the disk's length before it, the bytes that it replaced,
-- and whether a crash after it leaves what a read gives, as after a sync.
pub record Change : Type 0 where
  pub place : ℕ
  pub count : ℕ
  pub before : ℕ
  pub replaced : List ℕ
  pub settles : Bool

-- the first byte that a change may have replaced
abbrev pub start_of : Change → ℕ
start_of c = min c.place c.before

-- the bytes before a change
abbrev pub undone : Change → List ℕ → List ℕ
undone c bytes = take c.before (take (start_of c) bytes ++ c.replaced ++ drop (start_of c + length c.replaced) bytes)

-- what stood at the last sync
abbrev pub kept_of : List Change → List ℕ → List ℕ
kept_of [] bytes = bytes
kept_of (c ∷ log) bytes = cond c.settles bytes (kept_of log (undone c bytes))

-- the ranges that were written since, the newest first
abbrev pub ranges_of : List Change → List (ℕ × ℕ)
ranges_of [] = []
ranges_of (c ∷ log) = cond c.settles [] ((c.place, c.count) ∷ ranges_of log)

-- each moment, the newest first
abbrev pub past_of : List Change → List ℕ → List Moment
past_of [] bytes = record { kept = bytes; ranges = [] } ∷ []
past_of (c ∷ log) bytes = record { kept = kept_of (c ∷ log) bytes; ranges = ranges_of (c ∷ log) } ∷ past_of log (undone c bytes)

-- the change replaced bytes within its range and within the disk, and the disk grew no further than its range
abbrev pub is_fit : Change → List ℕ → Bool
is_fit c bytes = nat_le (start_of c + length c.replaced) c.before && nat_le (length c.replaced) c.count
    && nat_le c.before (length bytes) && nat_le (length bytes) (max c.before (c.place + c.count))

-- each change of the log fits the bytes that it left
abbrev pub is_logged : List Change → List ℕ → Bool
is_logged [] bytes = true
is_logged (c ∷ log) bytes = (c.settles || is_fit c bytes) && is_logged log (undone c bytes)

-- the disk as its callers see it
abbrev pub memory_state : List ℕ → List Change → ℕ → Bool → ℕ → Bool → DiskState
memory_state bytes log faults stopped armed keep = record {
  tells = true;
  bytes = bytes;
  kept = kept_of log bytes;
  ranges = ranges_of log;
  past = past_of log bytes;
  size = length bytes;
  faults = faults;
  stopped = stopped;
  armed = armed;
  keep = keep;
}

-- a blank disk without faults, neither armed nor stopped
abbrev pub blank_disk : DiskState
blank_disk = memory_state [] [] 0 false 0 false

-- what undoes a write of so many bytes over those
abbrev pub write_of : ℕ → ℕ → List ℕ → Bool → Change
write_of at n old settles = record { place = at; count = n; before = length old; replaced = take n (drop at old); settles = settles }

-- a change of a disk of this length that replaced nothing
abbrev pub mark_of : ℕ → ℕ → ℕ → Bool → Change
mark_of at n size settles = record { place = at; count = n; before = size; replaced = []; settles = settles }

-- a change of all the bytes
abbrev pub loss_of : List ℕ → Change
loss_of old = record { place = 0; count = 0; before = length old; replaced = old; settles = true }
