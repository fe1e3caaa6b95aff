-- What a disk failed is answered as such: else neither its faults nor its standing changed.
use Rattle.std.proofs.Common.{◌≡◌, ◌⊎◌, inl, inr, ℕ, List, [], ◌∷◌, Result, Ok, Err, refl, sym, ◌∙◌, ap, subst}
use Rattle.std.specs.Result.{IsErrAnd}
use Rattle.aeg_disk.specs.declared.disk.DiskErr.{DiskErr}
use Rattle.aeg_disk.specs.declared.disk.DiskErr.TheVariants as DiskErrs
use Rattle.aeg_disk.specs.Disk.{DiskState, Writes, Syncs, Looks}
use Rattle.node_journal.specs.declared.opening.OpenErr.{OpenErr}
use Rattle.node_journal.specs.declared.opening.OpenErr.TheVariants.{Disk, BadRecord, Memory}
use Rattle.node_journal.specs.Append.{Ran, IsFaultless}
use Rattle.node_journal.specs.Opening.{LooksTo, Shuts, open_err}

-- an answer of the disk's failure, or no failure
abbrev pub Tells : {T : Type 0} → Result T OpenErr → DiskState → DiskState → Type 0
Tells r a z = (r ≡ Err Disk) ⊎ IsFaultless a z

-- the answer is this error of the disk's, as whoever opens a journal sees it
abbrev pub IsError : {T : Type 0} → Result T OpenErr → DiskErr → Type 0
IsError r e = IsErrAnd r (λ o. o ≡ open_err e)

error_is : {T : Type 0} (r : Result T OpenErr) (e : DiskErr) → IsError r e → r ≡ Err (open_err e)
error_is (Ok x) e h = absurd h
error_is (Err o) e h = ap Err h

pub none_failed : (a b : DiskState) → b ≡ a → IsFaultless a b
none_failed a b same = record { faults = ap (λ (s : DiskState). s.faults) same; stopped = ap (λ (s : DiskState). s.stopped) same }

pub then_well : (a b c : DiskState) → IsFaultless a b → IsFaultless b c → IsFaultless a c
then_well a b c f s = record { faults = s.faults ∙ f.faults; stopped = s.stopped ∙ f.stopped }

pub write_well : (at : ℕ) (piece : List ℕ) (a b : DiskState) → Writes at piece a b (Ok tt) → IsFaultless a b
write_well at piece a b d = record { faults = d.faults; stopped = d.passed.runs ∙ sym d.passed.ran }

pub sync_well : (a b : DiskState) → Syncs a b (Ok tt) → IsFaultless a b
sync_well a b d = record { faults = d.faults; stopped = d.passed.runs ∙ sym d.passed.ran }

-- an append that went well, or lacked memory
pub ran_well : (at : ℕ) (piece : List ℕ) (a z : DiskState) → Ran at piece a z (Ok tt) → IsFaultless a z
ran_well at piece a z run =
    then_well a run.0 z (write_well _ piece a run.0 run.3)
    (then_well run.0 run.1 z (sync_well run.0 run.1 run.4) (then_well run.1 run.2 z (write_well at (1 ∷ []) run.1 run.2 run.5) (sync_well run.2 z run.6)))

pub ran_short : (at : ℕ) (piece : List ℕ) (a z : DiskState) (e : DiskErr) → e ≡ DiskErrs.Memory → Ran at piece a z (Err e) → IsFaultless a z
ran_short at piece a z e is run = by_case (subst (λ (d : DiskErr). Ran at piece a z (Err d)) is run)
  where
    by_case : Ran at piece a z (Err DiskErrs.Memory) → IsFaultless a z
    by_case (inl same) = none_failed a z same
    by_case (inr (inl w)) = then_well a w.0 z (write_well _ piece a w.0 w.1) (none_failed w.0 z w.2)
    by_case (inr (inr (inl w))) =
        then_well a w.0 z (write_well _ piece a w.0 w.2) (then_well w.0 w.1 z (sync_well w.0 w.1 w.3) (none_failed w.1 z w.4))
    by_case (inr (inr (inr w))) =
        then_well a w.0 z (write_well _ piece a w.0 w.3)
        (then_well w.0 w.1 z (sync_well w.0 w.1 w.4) (then_well w.1 w.2 z (write_well at (1 ∷ []) w.1 w.2 w.5) (none_failed w.2 z w.6)))

-- the calls of an opening
pub sync_told : {T : Type 0} (a z : DiskState) (e : DiskErr) (r : Result T OpenErr) → IsError r e → Syncs a z (Err e) → Tells r a z
sync_told a z DiskErrs.Failed r is w = inl (error_is r DiskErrs.Failed is)
sync_told a z DiskErrs.Memory r is same = inr (none_failed a z same)

pub len_told : {T : Type 0} (a b z : DiskState) (e : DiskErr) (r : Result T OpenErr) → IsError r e → Syncs a b (Ok tt) → Looks {T = ℕ} b z (Err e) → Tells r a z
len_told a b z DiskErrs.Failed r is s w = inl (error_is r DiskErrs.Failed is)
len_told a b z DiskErrs.Memory r is s same = inr (then_well a b z (sync_well a b s) (none_failed b z same))

pub reads_told : {T : Type 0} (X : Type 0) (a b d z : DiskState) (e : OpenErr) → Syncs a b (Ok tt) → d ≡ b
    → LooksTo {T = X} d z (Err e) → Tells {T = T} (Err e) a z
reads_told X a b d z Disk s same w = inl refl
reads_told X a b d z Memory s same w = inr (then_well a b z (sync_well a b s) (none_failed b z (w ∙ same)))
reads_told X a b d z (BadRecord at) s same w = inr (then_well a b z (sync_well a b s) (none_failed b z (w ∙ same)))

pub shut_told : {T : Type 0} (a b d z : DiskState) (e : DiskErr) (r : Result T OpenErr) → IsError r e
    → Syncs a b (Ok tt) → d ≡ b → Shuts d z (Err e) → Tells r a z
shut_told a b d z DiskErrs.Failed r is s same w = inl (error_is r DiskErrs.Failed is)
shut_told a b d z DiskErrs.Memory r is s same (inl w) = inr (then_well a b z (sync_well a b s) (none_failed b z (w ∙ same)))
shut_told a b d z DiskErrs.Memory r is s same (inr w) =
    inr (then_well a b z (sync_well a b s)
    (then_well b d z (none_failed b d same) (then_well d w.0 z (write_well 0 (0 ∷ []) d w.0 w.1) (none_failed w.0 z w.2))))

-- an opening that went well
pub read_well : (a b d z : DiskState) → Syncs a b (Ok tt) → d ≡ b → z ≡ d → IsFaultless a z
read_well a b d z s same left = then_well a b z (sync_well a b s) (none_failed b z (left ∙ same))

pub shut_well : (a b d z : DiskState) → Syncs a b (Ok tt) → d ≡ b → Shuts d z (Ok tt) → IsFaultless a z
shut_well a b d z s same w =
    then_well a b z (sync_well a b s) (then_well b d z (none_failed b d same) (then_well d w.0 z (write_well 0 (0 ∷ []) d w.0 w.1) (sync_well w.0 z w.2)))
