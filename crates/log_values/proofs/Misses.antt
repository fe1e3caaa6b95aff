-- A loop over fields that meets want of memory, or a field that isn't there.
use Rattle.std.proofs.Common.{◌≡◌, ℕ, ◌-◌, ◌<◌, List}
use Rattle.aeg_wire.specs.Fields.{Read}
use Rattle.aeg_wire.specs.Formats.{list_at}
use Rattle.aeg_wire.proofs.Lists.{with_front, ends}
use Rattle.log_values.specs.declared.misread.Misread.{Misread}
use Rattle.log_values.specs.declared.misread.Misread.TheVariants as misread
use Rattle.log_values.specs.Reading.{Misses}

pub list_misses : {A : Type 0} (one : List ℕ → Read A) (e : Misread) (front : List A) (count i : ℕ) (bytes : List ℕ)
    (total : Read (List A)) → i < count → Misses e (one bytes)
    → with_front front (list_at one (count - i) bytes) ≡ total → Misses e total
list_misses one misread.Memory front count i bytes total lt h so_far = tt
list_misses one misread.Outside front count i bytes total lt h so_far = ends one front count i bytes total lt h so_far
