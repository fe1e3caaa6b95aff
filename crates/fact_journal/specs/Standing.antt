-- Which records of facts a disk stands for.
use Rattle.std.specs.Prelude.{◌≡◌, ℕ, ◌+◌, List, [], map, true, false, Some, slice_get}
use Rattle.aeg_disk.specs.Disk.{DiskState, Image}
use Rattle.node_journal.specs.Journal.{records, size_of, IsBadAt}
use Rattle.node_journal.specs.Append.{Holds}
use Rattle.log_values.specs.declared.fact.Fact.{Fact}
use Rattle.log_values.specs.Records.{record_text}

-- records of facts, as the bodies of a journal
abbrev pub texts : List (List Fact) → List (List ℕ)
texts rs = map record_text rs

-- Every image of the disk has just these records, with the shut gate at this place, and a read gives them.
pub record HasFacts (rs : List (List Fact)) (s : DiskState) (at : ℕ) : Type 0 where
  pub images : Holds (texts rs) at s
  pub read : records s.bytes ≡ texts rs
  -- the journal is as long as these records make it
  pub long : at + 1 ≡ size_of (texts rs)

-- the bodies are those of one of the lists
abbrev pub IsOneOf : List (List ℕ) → List (List (List Fact)) → Type 0
IsOneOf bodies lists = (k : ℕ) × (rs : List (List Fact)) × (slice_get lists k ≡ Some rs) × (bodies ≡ texts rs)

-- no gate is open that no whole entry follows
abbrev pub IsSound : List ℕ → Type 0
IsSound c = (n : ℕ) → IsBadAt n c → ⊥

-- the disk tells what it holds, and each of its images is a journal with the records of one of the lists
pub record StandsFor (lists : List (List (List Fact))) (s : DiskState) : Type 0 where
  pub tells : s.tells ≡ true
  pub images : (c : List ℕ) → Image s c → IsOneOf (records c) lists
  pub sound : (c : List ℕ) → Image s c → IsSound c

-- these bytes are a journal with the records of one of the lists
abbrev pub IsJournalOf : List (List (List Fact)) → List ℕ → Type 0
IsJournalOf lists c = IsOneOf (records c) lists × IsSound c

-- it is neither armed nor stopped
abbrev pub IsAtRest : DiskState → Type 0
IsAtRest s = (s.armed ≡ 0) × (s.stopped ≡ false)

-- a blank disk that tells so
pub record IsBlank (s : DiskState) : Type 0 where
  pub tells : s.tells ≡ true
  pub kept : s.kept ≡ []
  pub ranges : s.ranges ≡ []
