-- Blank disks in memory.
use Rattle.std.proofs.Common.{◌≡◌, ℕ, zero, suc, List, [], ◌∷◌, ◌++◌, length, map, Some, refl, sym, subst, ◌∙◌}
use Rattle.std.specs.Prelude.{slice_get}
use Rattle.std.proofs.lemmas.List.{length-map}
use Rattle.aeg_disk.specs.Disk.{DiskState}
use Rattle.aeg_disk.specs.Memory.{blank_disk}
use Rattle.aeg_disk.specs.MemDisk.{state_of}
use Rattle.aeg_disk.specs.declared.memory.MemDisk.{MemDisk}
use Rattle.fact_journal.specs.Standing.{IsBlank, IsAtRest}
use Rattle.world.specs.Disks.{AreBlank}

-- each of them is blank
abbrev pub AllBlank : List MemDisk → Type 0
AllBlank [] = Unit {0}
AllBlank (d ∷ ds) = (state_of d ≡ blank_disk) × AllBlank ds

-- one more
pub blank_more : (ds : List MemDisk) (d : MemDisk) → AllBlank ds → state_of d ≡ blank_disk → AllBlank (ds ++ d ∷ [])
blank_more [] d h e = (e, tt)
blank_more (x ∷ ds) d h e = (h.0, blank_more ds d h.1 e)

blank_at : (ds : List MemDisk) (x : ℕ) (d : DiskState) → AllBlank ds → slice_get (map state_of ds) x ≡ Some d → d ≡ blank_disk
blank_at [] zero d h e = absurd (cc)
blank_at [] (suc x) d h e = absurd (cc)
blank_at (y ∷ ds) zero d h e = let same : state_of y ≡ d = cc in sym same ∙ h.0
blank_at (y ∷ ds) (suc x) d h e = blank_at ds x d h.1 e

is_blank : IsBlank blank_disk × IsAtRest blank_disk
is_blank = (record { tells = refl; kept = refl; ranges = refl }, (refl, refl))

-- fifteen of them are the disks of nodes that were never started
pub are_blank : (ds : List MemDisk) → length ds ≡ 15 → AllBlank ds → AreBlank (map state_of ds)
are_blank ds l h = (length-map ds state_of ∙ l, λ x d e. subst (λ (z : DiskState). IsBlank z × IsAtRest z) (sym (blank_at ds x d h e)) is_blank)
