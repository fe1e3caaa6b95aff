-- A disk in memory reads as one of its images.
use Rattle.std.proofs.Common.{◌≡◌, ℕ, ◌+◌, max, List, [], ◌∷◌, length, Bool, true, false, cond, ◌&&◌, ◌||◌, nat_le, refl}
use Rattle.std.proofs.lemmas.Bool.{leb-true, and_parts}
use Rattle.aeg_disk.specs.Disk.{IsImage, Lawful}
use Rattle.aeg_disk.specs.Memory.{Change, start_of, undone, kept_of, ranges_of, is_fit, is_logged, memory_state}
use Rattle.aeg_disk.specs.Undo.{torn_undo}

four : (p q r s : Bool) → (p && q && r && s) ≡ true → (p ≡ true) × (q ≡ true) × (r ≡ true) × (s ≡ true)
four true true true true h = (refl, refl, refl, refl)
four false q r s h = cc
four true false r s h = cc
four true true false s h = cc
four true true true false h = cc

pub logged_image : (log : List Change) (bytes : List ℕ) → is_logged log bytes ≡ true → IsImage (kept_of log bytes) (ranges_of log) bytes
logged_image [] bytes h = refl
logged_image (c ∷ log) bytes h = at (λ g. logged_image log (undone c bytes) g) c.settles h
  where
    at : (is_logged log (undone c bytes) ≡ true → IsImage (kept_of log (undone c bytes)) (ranges_of log) (undone c bytes))
        → (s : Bool) → ((s || is_fit c bytes) && is_logged log (undone c bytes)) ≡ true
        → IsImage (cond s bytes (kept_of log (undone c bytes))) (cond s [] ((c.place, c.count) ∷ ranges_of log)) bytes
    at ih true g = refl
    at ih false g =
        let parts = and_parts (is_fit c bytes) (is_logged log (undone c bytes)) g in
        let fits = four (nat_le (start_of c + length c.replaced) c.before) (nat_le (length c.replaced) c.count)
        (nat_le c.before (length bytes)) (nat_le (length bytes) (max c.before (c.place + c.count))) parts.0 in (
          undone c bytes,
          ih parts.1,
          torn_undo c.place c.count c.before c.replaced bytes (leb-true _ _ fits.0) (leb-true _ _ fits.1)
              (leb-true _ _ fits.2) (leb-true _ _ fits.3),
        )

pub lawful_memory : (bytes : List ℕ) (log : List Change) (faults : ℕ) (stopped : Bool) (armed : ℕ) (keep : Bool)
    → is_logged log bytes ≡ true → Lawful (memory_state bytes log faults stopped armed keep)
lawful_memory bytes log faults stopped armed keep h = record { size = refl; reads = logged_image log bytes h }
